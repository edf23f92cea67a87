-- The bits of the crate's StorageClass. Assumes nothing: these are definitions.
use Rattle.std.specs.Prelude.{ℕ}

abbrev pub CONST : ℕ
CONST = 1

abbrev pub VOLATILE : ℕ
VOLATILE = 2

abbrev pub FAR : ℕ
FAR = 4

abbrev pub UNALIGNED : ℕ
UNALIGNED = 16

abbrev pub RESTRICT : ℕ
RESTRICT = 32

abbrev pub PTR64 : ℕ
PTR64 = 64

abbrev pub LVALUE_QUAL : ℕ
LVALUE_QUAL = 128

abbrev pub RVALUE_QUAL : ℕ
RVALUE_QUAL = 256
