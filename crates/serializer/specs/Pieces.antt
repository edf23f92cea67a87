-- What the code looks up by number. Assumes nothing: these are definitions.
use Rattle.std.specs.Prelude.{ℕ, ◌-◌, [], ◌∷◌, slice_index_or}
use Rattle.scan.specs.Bytes.{pick}
use Rattle.node.specs.Kind.{kind_number, ParseResult, Ptr, Alias}
use Rattle.meaning.specs.Tree.{Tree, node}
use Rattle.text.specs.Emit.{Text, put, unless}
use Rattle.serializer.specs.Flags.{has, NO_CLASS_TYPE}
use Rattle.serializer.specs.Serializer.{is_kind, p, no_cast, write_cast}

-- Ptr, Ref, RValueRef
unfoldable pub mark : ℕ → Text
mark k = put (slice_index_or ("*" ∷ "&" ∷ "&&" ∷ []) (k - kind_number Ptr) "")

-- Alias, Struct, Union, Class, Enum
unfoldable pub class_name : ℕ → ℕ → Text
class_name f k = unless (has f NO_CLASS_TYPE) (put (slice_index_or ("" ∷ "struct " ∷ "union " ∷ "class " ∷ "enum " ∷ []) (k - kind_number Alias) ""))

-- what write_name is handed by the owner of the symbol: a ParseResult gives its guard and its type
unfoldable pub guard_of : Tree → ℕ
guard_of Tree.none = 0
guard_of (node k x s a b c) = pick (is_kind ParseResult k) (p x) 0

unfoldable pub cast_of : ℕ → Tree → Text
cast_of f Tree.none = no_cast
cast_of f (node k x s a b c) = pick (is_kind ParseResult k) (write_cast f b) no_cast
