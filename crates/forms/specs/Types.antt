-- What read_var_type begins with, in the order of its lines. Assumes nothing: these are definitions.
use Rattle.std.specs.Prelude.{ℕ, ◌+◌, List, [], ◌∷◌, drop, Option, Some, None}
use Prim.Native.String.{String}
use Rattle.forms.specs.declared.start.Start.{Start}
use Rattle.forms.specs.Start.{start}
use Rattle.scan.specs.Bytes.{pick, bytes, starts, spelled, up_to}
use Rattle.scan.specs.Cursor.{read_digit}
use Rattle.letters.specs.Classes.{read_qualifier}
use Rattle.forms.specs.declared.types.TypeForm.{TypeForm}
use Rattle.forms.specs.declared.types.TypeForm.TheVariants as form
use Rattle.forms.specs.declared.types.TypeLetter.{TypeLetter}
use Rattle.forms.specs.declared.types.TypeLetter.TheVariants as letter

-- The prefixes, in their order. A `$` that begins none of them is passed over, and a letter follows (type_letter); so it does behind `$$C` and its qualifier
abbrev pub type_forms : List (String × TypeForm)
type_forms =
    ("W4", form.Enum) ∷ ("A6", form.FunctionRef) ∷ ("P6", form.FunctionPtr) ∷ ("P8", form.MemberFunctionPtr)
    ∷ ("$0", form.Constant) ∷ ("$D", form.TemplateParameter) ∷ ("$$BY", form.Array) ∷ ("$$Q", form.RValueRef)
    ∷ ("$S", form.EmptyPack) ∷ ("$$V", form.EmptyPack) ∷ ("$$Z", form.EmptyPack) ∷ ("$$$V", form.EmptyPack)
    ∷ ("$$T", form.Nullptr) ∷ ("$$A6", form.Function) ∷ ("$$A8@@", form.QualifiedFunction) ∷ ("$$Y", form.Alias)
    ∷ ("$$C", form.Reclassed)
    ∷ ("$1", form.MemberPointer) ∷ ("$H", form.MemberPointer) ∷ ("$I", form.MemberPointer) ∷ ("$J", form.MemberPointer)
    ∷ ("$", form.Plain) ∷ []

unfoldable pub type_start : List ℕ → Start TypeForm
type_start r = spelled start type_forms (start form.Plain 0) r

-- one prefix, of whose bytes the last ones are the literal
abbrev pub start_if : List ℕ → List ℕ → TypeForm → ℕ → ℕ → Start TypeForm
start_if literal r f n other = pick (starts literal r) (start f n) (start form.Plain other)

abbrev pub head : TypeLetter → ℕ → Start (Option TypeLetter)
head l n = start (Some l) n

-- The letters. Basic types are numbered by their places in the crate's enum Type, from Void on. A digit is no letter: type_reference comes first
abbrev pub type_letters : List (String × TypeLetter)
type_letters =
    ("?", letter.Parameter) ∷ ("T", letter.Union) ∷ ("U", letter.Struct) ∷ ("V", letter.Class)
    ∷ ("A", letter.Ref) ∷ ("B", letter.VolatileRef)
    ∷ ("P", letter.Ptr) ∷ ("Q", letter.ConstPtr) ∷ ("R", letter.VolatilePtr) ∷ ("S", letter.ConstVolatilePtr)
    ∷ ("Y", letter.Array)
    ∷ ("X", letter.Basic 0)  -- Void
    ∷ ("D", letter.Basic 2)  -- Char
    ∷ ("C", letter.Basic 3)  -- Schar
    ∷ ("E", letter.Basic 4)  -- Uchar
    ∷ ("F", letter.Basic 5)  -- Short
    ∷ ("G", letter.Basic 6)  -- Ushort
    ∷ ("H", letter.Basic 7)  -- Int
    ∷ ("I", letter.Basic 8)  -- Uint
    ∷ ("J", letter.Basic 9)  -- Long
    ∷ ("K", letter.Basic 10)  -- Ulong
    ∷ ("M", letter.Basic 19)  -- Float
    ∷ ("N", letter.Basic 20)  -- Double
    ∷ ("O", letter.Basic 21)  -- Ldouble
    ∷ ("_N", letter.Basic 1)  -- Bool
    ∷ ("_J", letter.Basic 11)  -- Int64
    ∷ ("_K", letter.Basic 12)  -- Uint64
    ∷ ("_L", letter.Basic 13)  -- Int128
    ∷ ("_M", letter.Basic 14)  -- Uint128
    ∷ ("_W", letter.Basic 15)  -- Wchar
    ∷ ("_Q", letter.Basic 16)  -- Char8
    ∷ ("_S", letter.Basic 17)  -- Char16
    ∷ ("_U", letter.Basic 18)  -- Char32
    ∷ []

unfoldable pub type_letter : List ℕ → Start (Option TypeLetter)
type_letter r = spelled head type_letters (start None (up_to (pick (starts (bytes "_") r) 2 1) r)) r

abbrev pub Reference : Type 0
Reference = Option (ℕ × ℕ)

-- A stored type: a digit; `$` and a digit that begins no prefix; `$$C`, a qualifier or none, and a digit
abbrev pub stored : ℕ → Option ℕ → Reference
stored n (Some d) = Some (d, n + 1)
stored n None = None

abbrev pub digit_behind : ℕ → List ℕ → Reference
digit_behind n r = stored n (read_digit (drop n r))

unfoldable pub type_reference : List ℕ → Reference
type_reference r =
    pick (starts (bytes "$") r)
    (pick (starts (bytes "$$C") r) (digit_behind (3 + (read_qualifier (drop 3 r)).taken) r)
    (pick (starts (bytes "$0") r) None (pick (starts (bytes "$1") r) None (digit_behind 1 r))))
    (digit_behind 0 r)
