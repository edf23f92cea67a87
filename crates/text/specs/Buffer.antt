-- What a writer does to the text that it is lent. Assumes nothing: these are definitions.
use Rattle.std.specs.Prelude.{◌≡◌}
use Rattle.text.specs.Emit.{Text, Wrote}
use Rattle.text.specs.declared.buffer.Buffer.{Buffer}

-- a writer of T takes the text b to b', in the same bytes
abbrev pub Writes : Text → Buffer → Buffer → Type 0
Writes T b b' = Wrote T b.bytes.now b.at b'.bytes.now b'.at × (b'.bytes.ghost_name ≡ b.bytes.ghost_name)
