-- The bits of the crate's FuncClass. Assumes nothing: these are definitions.
use Rattle.std.specs.Prelude.{ℕ}

abbrev pub PUBLIC : ℕ
PUBLIC = 1

abbrev pub PROTECTED : ℕ
PROTECTED = 2

abbrev pub PRIVATE : ℕ
PRIVATE = 4

abbrev pub GLOBAL : ℕ
GLOBAL = 8

abbrev pub STATIC : ℕ
STATIC = 16

abbrev pub VIRTUAL : ℕ
VIRTUAL = 32

abbrev pub FAR : ℕ
FAR = 64

abbrev pub THUNK : ℕ
THUNK = 128
