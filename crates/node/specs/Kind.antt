-- The kinds of nodes by name; docs/NODES.md has the same numbers. Assumes nothing: these are definitions.
use Rattle.std.specs.Prelude.{ℕ, ◌+◌, Bool, List, [], ◌∷◌, map, leb}

pub data Kind : Type 0 where
  NamePlace TypePlace ParseResult Symbol OuterSymbol : Kind
  Md5 Operator RttiTypeDescriptor RttiBaseClassDescriptor NonTemplate AsInterface Template Discriminator ParsedName AnonymousId Anonymous : Kind
  None MemberFunction MemberFunctionPointer NonMemberFunction CXXVBTable CXXVFTable VCallThunk TemplateParameterWithIndex ThreadSafeStaticGuard : Kind
  Constant ConstantString Ptr Ref RValueRef Array Var Alias Struct Union Class Enum VarArgs EmptyParameterPack Nullptr RTTIType : Kind
  -- a basic type, by its place among them
  Basic : ℕ → Kind

abbrev pub Void : Kind
Void = Basic 0

-- Int64 to Uint128 have two spellings
abbrev pub Int64 : Kind
Int64 = Basic 11

abbrev pub Uint128 : Kind
Uint128 = Basic 14

abbrev pub last_basic : ℕ
last_basic = 21

abbrev pub Ldouble : Kind
Ldouble = Basic last_basic

abbrev pub kind_number : Kind → ℕ
kind_number NamePlace = 1
kind_number TypePlace = 2
kind_number ParseResult = 3
kind_number Symbol = 4
kind_number OuterSymbol = 5
kind_number Md5 = 6
kind_number Operator = 7
kind_number RttiTypeDescriptor = 8
kind_number RttiBaseClassDescriptor = 9
kind_number NonTemplate = 10
kind_number AsInterface = 11
kind_number Template = 12
kind_number Discriminator = 13
kind_number ParsedName = 14
kind_number AnonymousId = 15
kind_number Anonymous = 16
kind_number None = 17
kind_number MemberFunction = 18
kind_number MemberFunctionPointer = 19
kind_number NonMemberFunction = 20
kind_number CXXVBTable = 21
kind_number CXXVFTable = 22
kind_number VCallThunk = 23
kind_number TemplateParameterWithIndex = 24
kind_number ThreadSafeStaticGuard = 25
kind_number Constant = 26
kind_number ConstantString = 27
kind_number Ptr = 28
kind_number Ref = 29
kind_number RValueRef = 30
kind_number Array = 31
kind_number Var = 32
kind_number Alias = 33
kind_number Struct = 34
kind_number Union = 35
kind_number Class = 36
kind_number Enum = 37
kind_number (Basic k) = 38 + k
kind_number VarArgs = 60
kind_number EmptyParameterPack = 61
kind_number Nullptr = 62
kind_number RTTIType = 63

-- a place in a list, which adds no height
abbrev pub is_place : ℕ → Bool
is_place kind = leb kind (kind_number TypePlace)

-- the kinds that code calls by name
abbrev pub named : List Kind
named =
    NamePlace ∷ TypePlace ∷ ParseResult ∷ Symbol ∷ OuterSymbol ∷ Md5 ∷ Operator ∷ RttiTypeDescriptor ∷
    RttiBaseClassDescriptor ∷ NonTemplate ∷ AsInterface ∷ Template ∷ Discriminator ∷ ParsedName ∷ AnonymousId ∷
    Anonymous ∷ None ∷ MemberFunction ∷ MemberFunctionPointer ∷ NonMemberFunction ∷ CXXVBTable ∷ CXXVFTable ∷
    VCallThunk ∷ TemplateParameterWithIndex ∷ ThreadSafeStaticGuard ∷ Constant ∷ ConstantString ∷ Ptr ∷ Ref ∷
    RValueRef ∷ Array ∷ Var ∷ Alias ∷ Struct ∷ Union ∷ Class ∷ Enum ∷ Void ∷ Int64 ∷ Uint128 ∷
    Ldouble ∷ VarArgs ∷ EmptyParameterPack ∷ Nullptr ∷ RTTIType ∷ []

abbrev pub named_numbers : List ℕ
named_numbers = map kind_number named
