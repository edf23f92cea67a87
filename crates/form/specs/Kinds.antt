-- The kinds of nodes. Assumes nothing: these are definitions.
use Rattle.std.specs.Prelude.{ℕ, ◌+◌, not, List, [], ◌∷◌, get_or, eqb}
use Rattle.form.specs.declared.Shape.{Shape}

-- The classes of kinds, one bit each: a reference fits where a reading can put a node of its class. `nothing` is no reference at all.
abbrev pub nothing : ℕ
nothing = 1

-- names that stand anywhere: NonTemplate, Template
abbrev pub plain : ℕ
plain = 2

-- names that are stored and found again: AsInterface, AnonymousId
abbrev pub scoped : ℕ
scoped = 4

-- names of a scope only: Anonymous, Discriminator, ParsedName
abbrev pub nested : ℕ
nested = 8

-- names of operators
abbrev pub operator : ℕ
operator = 16

-- the name of `??@`
abbrev pub md5 : ℕ
md5 = 32

-- a place in a list of names
abbrev pub names : ℕ
names = 64

-- a place in a list of types
abbrev pub types : ℕ
types = 128

-- a name with its scope, as read_name gives it
abbrev pub symbol : ℕ
symbol = 256

-- the same where parse reads the name itself: `??@` and `?$TSS`
abbrev pub outer : ℕ
outer = 512

-- a ParseResult
abbrev pub parsed : ℕ
parsed = 1024

-- what read_var_type gives
abbrev pub var_type : ℕ
var_type = 2048

-- NonMemberFunction: a type of both kinds
abbrev pub function : ℕ
function = 4096

-- VarArgs: in a list only
abbrev pub var_args : ℕ
var_args = 8192

-- None: a symbol's type, a structor's return
abbrev pub no_type : ℕ
no_type = 16384

-- a symbol's type only
abbrev pub outer_type : ℕ
outer_type = 32768

-- the largest values of numbers: any 32 bits, and what a reading can give
abbrev pub any : ℕ
any = 4294967295

-- a guard's index and one
abbrev pub guard_most : ℕ
guard_most = 2147483648

abbrev pub operator_most : ℕ
operator_most = 74

-- StorageClass
abbrev pub class_most : ℕ
class_most = 511

abbrev pub convention_most : ℕ
convention_most = 4

abbrev pub func_class_most : ℕ
func_class_most = 255

abbrev pub variable_most : ℕ
variable_most = 4

-- A kind's shape: its class; what its three references may be; the largest of its four numbers; 1 where the first two are a start and a length in the symbol
abbrev pub row : ℕ → ℕ → ℕ → ℕ → ℕ → ℕ → ℕ → ℕ → ℕ → List ℕ
row class a b c p q r s ranged = class ∷ a ∷ b ∷ c ∷ p ∷ q ∷ r ∷ s ∷ ranged ∷ []

abbrev pub shapes : List (List ℕ)
shapes =
    row 0 0 0 0 0 0 0 0 0  -- 0 no kind
    ∷ row names (nothing + names) (plain + scoped + nested) nothing 0 0 0 0 0  -- 1 NamePlace
    ∷ row types (nothing + types) (var_type + function + var_args) nothing 0 0 0 0 0  -- 2 TypePlace
    ∷ row parsed (symbol + outer) (no_type + outer_type + function) nothing guard_most 0 0 0 0  -- 3 ParseResult
    ∷ row symbol (plain + scoped + operator) (nothing + names) nothing 0 0 0 0 0  -- 4 Symbol
    ∷ row outer (plain + scoped + nested + md5) (nothing + names) nothing 0 0 0 0 0  -- 5 OuterSymbol
    ∷ row md5 nothing nothing nothing any any 0 0 1  -- 6 Md5
    ∷ row operator nothing nothing nothing operator_most 0 0 0 0  -- 7 Operator
    ∷ row operator (var_type + function) nothing nothing class_most 0 0 0 0  -- 8 RttiTypeDescriptor
    ∷ row operator nothing nothing nothing any any any any 0  -- 9 RttiBaseClassDescriptor
    ∷ row plain nothing nothing nothing any any 0 0 1  -- 10 NonTemplate
    ∷ row scoped nothing nothing nothing any any 0 0 1  -- 11 AsInterface
    ∷ row plain (plain + operator) (nothing + types) nothing 0 0 0 0 0  -- 12 Template
    ∷ row nested nothing nothing nothing any 0 0 0 0  -- 13 Discriminator
    ∷ row nested parsed nothing nothing 0 0 0 0 0  -- 14 ParsedName
    ∷ row scoped nothing nothing nothing any any 0 0 1  -- 15 AnonymousId
    ∷ row nested nothing nothing nothing 0 0 0 0 0  -- 16 Anonymous
    ∷ row no_type nothing nothing nothing 0 0 0 0 0  -- 17 None
    ∷ row outer_type (var_type + function + no_type) (nothing + types) nothing class_most convention_most func_class_most 0 0  -- 18 MemberFunction
    ∷ row var_type (var_type + function + no_type) (nothing + types) symbol class_most convention_most func_class_most 0 0  -- 19 MemberFunctionPointer
    ∷ row function (var_type + function) (nothing + types) nothing class_most convention_most 0 0 0  -- 20 NonMemberFunction
    ∷ row outer_type (nothing + names) nothing nothing class_most 0 0 0 0  -- 21 CXXVBTable
    ∷ row outer_type (nothing + names) nothing nothing class_most 0 0 0 0  -- 22 CXXVFTable
    ∷ row outer_type nothing nothing nothing any convention_most 0 0 0  -- 23 VCallThunk
    ∷ row var_type nothing nothing nothing any 0 0 0 0  -- 24 TemplateParameterWithIndex
    ∷ row outer_type nothing nothing nothing any 0 0 0 0  -- 25 ThreadSafeStaticGuard
    ∷ row var_type nothing nothing nothing any 0 0 0 0  -- 26 Constant
    ∷ row outer_type nothing nothing nothing any any 0 0 1  -- 27 ConstantString
    ∷ row var_type (var_type + function) nothing nothing class_most 0 0 0 0  -- 28 Ptr
    ∷ row var_type (var_type + function) nothing nothing class_most 0 0 0 0  -- 29 Ref
    ∷ row var_type (var_type + function) nothing nothing class_most 0 0 0 0  -- 30 RValueRef
    ∷ row var_type (var_type + function) nothing nothing class_most any 0 0 0  -- 31 Array
    ∷ row outer_type (var_type + function) nothing nothing class_most variable_most 0 0 0  -- 32 Var
    ∷ row var_type symbol nothing nothing class_most 0 0 0 0  -- 33 Alias
    ∷ row var_type symbol nothing nothing class_most 0 0 0 0  -- 34 Struct
    ∷ row var_type symbol nothing nothing class_most 0 0 0 0  -- 35 Union
    ∷ row var_type symbol nothing nothing class_most 0 0 0 0  -- 36 Class
    ∷ row var_type symbol nothing nothing class_most 0 0 0 0  -- 37 Enum
    ∷ row var_type nothing nothing nothing class_most 0 0 0 0  -- 38 Void
    ∷ row var_type nothing nothing nothing class_most 0 0 0 0  -- 39 Bool
    ∷ row var_type nothing nothing nothing class_most 0 0 0 0  -- 40 Char
    ∷ row var_type nothing nothing nothing class_most 0 0 0 0  -- 41 Schar
    ∷ row var_type nothing nothing nothing class_most 0 0 0 0  -- 42 Uchar
    ∷ row var_type nothing nothing nothing class_most 0 0 0 0  -- 43 Short
    ∷ row var_type nothing nothing nothing class_most 0 0 0 0  -- 44 Ushort
    ∷ row var_type nothing nothing nothing class_most 0 0 0 0  -- 45 Int
    ∷ row var_type nothing nothing nothing class_most 0 0 0 0  -- 46 Uint
    ∷ row var_type nothing nothing nothing class_most 0 0 0 0  -- 47 Long
    ∷ row var_type nothing nothing nothing class_most 0 0 0 0  -- 48 Ulong
    ∷ row var_type nothing nothing nothing class_most 0 0 0 0  -- 49 Int64
    ∷ row var_type nothing nothing nothing class_most 0 0 0 0  -- 50 Uint64
    ∷ row var_type nothing nothing nothing class_most 0 0 0 0  -- 51 Int128
    ∷ row var_type nothing nothing nothing class_most 0 0 0 0  -- 52 Uint128
    ∷ row var_type nothing nothing nothing class_most 0 0 0 0  -- 53 Wchar
    ∷ row var_type nothing nothing nothing class_most 0 0 0 0  -- 54 Char8
    ∷ row var_type nothing nothing nothing class_most 0 0 0 0  -- 55 Char16
    ∷ row var_type nothing nothing nothing class_most 0 0 0 0  -- 56 Char32
    ∷ row var_type nothing nothing nothing class_most 0 0 0 0  -- 57 Float
    ∷ row var_type nothing nothing nothing class_most 0 0 0 0  -- 58 Double
    ∷ row var_type nothing nothing nothing class_most 0 0 0 0  -- 59 Ldouble
    ∷ row var_args nothing nothing nothing 0 0 0 0 0  -- 60 VarArgs
    ∷ row var_type nothing nothing nothing 0 0 0 0 0  -- 61 EmptyParameterPack
    ∷ row var_type nothing nothing nothing 0 0 0 0 0  -- 62 Nullptr
    ∷ row outer_type nothing nothing nothing 0 0 0 0 0  -- 63 RTTIType
    ∷ []

-- number j of a kind's shape; 0 for a kind that is not known
unfoldable pub shape_of : ℕ → ℕ → ℕ
shape_of kind j = get_or (get_or shapes kind []) j 0

-- a kind's shape, as the code hands it on
unfoldable pub whole_shape : ℕ → Shape
whole_shape kind =
    record {
      class = shape_of kind 0;
      refs = shape_of kind 1 ∷ shape_of kind 2 ∷ shape_of kind 3 ∷ [];
      most = shape_of kind 4 ∷ shape_of kind 5 ∷ shape_of kind 6 ∷ shape_of kind 7 ∷ [];
      ranged = not (eqb (shape_of kind 8) 0);
    }
