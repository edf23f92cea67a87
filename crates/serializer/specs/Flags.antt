-- The bits of the crate's DemangleFlags. Assumes nothing: these are definitions.
use Rattle.std.specs.Prelude.{ℕ, ◌/◌, ◌%◌, Bool, ◌==◌}

-- a word of bits has this one
abbrev pub has : ℕ → ℕ → Bool
has word bit = word / bit % 2 == 1

abbrev pub NO_MS_KEYWORDS : ℕ
NO_MS_KEYWORDS = 2

abbrev pub NO_FUNCTION_RETURNS : ℕ
NO_FUNCTION_RETURNS = 4

-- these two act only together, as NO_THISTYPE
abbrev pub NO_MS_THISTYPE : ℕ
NO_MS_THISTYPE = 32

abbrev pub NO_CV_THISTYPE : ℕ
NO_CV_THISTYPE = 64

abbrev pub NO_ACCESS_SPECIFIERS : ℕ
NO_ACCESS_SPECIFIERS = 128

abbrev pub NO_MEMBER_TYPE : ℕ
NO_MEMBER_TYPE = 512

abbrev pub MS_TYPENAMES : ℕ
MS_TYPENAMES = 1024

-- 2048, DECODE_32_BIT, is known and does nothing

abbrev pub NAME_ONLY : ℕ
NAME_ONLY = 4096

abbrev pub NO_CLASS_TYPE : ℕ
NO_CLASS_TYPE = 1048576

abbrev pub SPACE_AFTER_COMMA : ℕ
SPACE_AFTER_COMMA = 2097152

abbrev pub HUG_TYPE : ℕ
HUG_TYPE = 4194304

abbrev pub SPACE_BEFORE_POINTER : ℕ
SPACE_BEFORE_POINTER = 8388608

abbrev pub WITH_PTR64 : ℕ
WITH_PTR64 = 16777216
