-- What a writing leaves: the beginning of the text, as far as there is room, and whether it fitted. Assumes nothing: these are definitions.
use Rattle.std.specs.Prelude.{ℕ, List, leb, length, Option, None, Some}
use Rattle.scan.specs.Bytes.{pick}
use Rattle.meaning.specs.Tree.{tree_of}
use Rattle.serializer.specs.Serializer.{serialize}

-- the text of what r names, with nothing before it
unfoldable pub text_of : ℕ → List ℕ → List ℕ → ℕ → List ℕ
text_of f table symbol r = serialize f (tree_of table symbol r) 256

-- the length of a text that fits; None where it is cut
unfoldable pub written : ℕ → List ℕ → Option ℕ
written room t = pick (leb (length t) room) (Some (length t)) None
