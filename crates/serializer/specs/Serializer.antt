-- The text of a tree under a flag word `f`: the crate's Serializer, function by function. `x` are a node's numbers, `s` its bytes, `a`, `b` and `c` what it
-- refers to (docs/NODES.md says what these are by kind). A list is its last place; in a place `a` is the list before it and `b` its entry.
-- Assumes nothing: these are definitions.
use Rattle.std.specs.Prelude.{ℕ, ◌-◌, Bool, true, false, List, [], ◌∷◌, ◌==◌, nat_le, slice_index, slice_index_or}
use Prim.Native.String.{String}
use Rattle.scan.specs.Bytes.{pick}
use Rattle.letters.specs.StorageClass.{CONST, VOLATILE, RESTRICT, PTR64, LVALUE_QUAL, RVALUE_QUAL}
use Rattle.letters.specs.FuncClass.{PUBLIC, PROTECTED, PRIVATE, STATIC, VIRTUAL, THUNK}
use Rattle.operators.specs.Operators.{Ctor, Dtor, Conversion, VBTable, LocalStaticGuard, LiteralOperatorName, LocalStaticThreadGuard}
use Rattle.node.specs.Kind.{Kind, ParseResult, Md5, Operator, RttiTypeDescriptor, RttiBaseClassDescriptor, NonTemplate, AsInterface, Template, Discriminator, ParsedName, AnonymousId, Anonymous, MemberFunction, MemberFunctionPointer, NonMemberFunction, CXXVBTable, CXXVFTable, VCallThunk, TemplateParameterWithIndex, ThreadSafeStaticGuard, Constant, Ptr, Ref, RValueRef, Array, Var, Alias, Struct, Union, Class, Enum, VarArgs, EmptyParameterPack, Nullptr, kind_number, Void, Int64, Uint128, Ldouble}
use Rattle.meaning.specs.Tree.{Tree, node}
use Rattle.text.specs.Emit.{Text, none, lit, put, ◌⨾◌, when, unless}
use Rattle.text.specs.Spaces.{or, write_space_pre, write_space_ptr, write_space, space_where, not_set, after_close}
use Rattle.text.specs.Words.{operators, basics, renamed, conventions}
use Rattle.text.specs.Decimal.{decimal, unsigned}
use Rattle.serializer.specs.Flags.{has, NO_MS_KEYWORDS, NO_FUNCTION_RETURNS, NO_MS_THISTYPE, NO_CV_THISTYPE, NO_ACCESS_SPECIFIERS, NO_MEMBER_TYPE, MS_TYPENAMES, NAME_ONLY, NO_CLASS_TYPE, SPACE_AFTER_COMMA, HUG_TYPE, SPACE_BEFORE_POINTER, WITH_PTR64}

-- a node's four numbers
abbrev pub p : List ℕ → ℕ
p x = slice_index x 0

abbrev pub q : List ℕ → ℕ
q x = slice_index x 1

abbrev pub r : List ℕ → ℕ
r x = slice_index x 2

abbrev pub s₄ : List ℕ → ℕ
s₄ x = slice_index x 3

abbrev pub is_kind : Kind → ℕ → Bool
is_kind kind k = k == kind_number kind

abbrev pub kind_of : Tree → ℕ
kind_of Tree.none = 0
kind_of (node k x s a b c) = k

abbrev pub is_empty : Tree → Bool
is_empty Tree.none = true
is_empty (node k x s a b c) = false

-- what stands beside its kind, or `other`
abbrev pub by_kind : ℕ → List (Kind × Text) → Text → Text
by_kind k [] other = other
by_kind k ((kind, t) ∷ rest) other = pick (is_kind kind k) t (by_kind k rest other)

abbrev pub number : ℕ → Text
number n = lit (decimal n)

unfoldable pub comma : ℕ → Text
comma f = put "," ⨾ when (has f SPACE_AFTER_COMMA) (put " ")

unfoldable pub write_calling_conv : ℕ → ℕ → Text
write_calling_conv f conv = space_where not_set ⨾ unless (has f NO_MS_KEYWORDS) (put (slice_index_or conventions conv ""))

-- the beginning of write_pre for a MemberFunction
unfoldable pub write_access : ℕ → ℕ → Text
write_access f class =
    unless (has f NO_ACCESS_SPECIFIERS) (when (has class PRIVATE) (put "private: ") ⨾ when (has class PROTECTED) (put "protected: ") ⨾ when (has class PUBLIC) (put "public: "))

unfoldable pub write_member_type : ℕ → ℕ → Text
write_member_type f class = unless (has f NO_MEMBER_TYPE) (when (has class STATIC) (put "static ") ⨾ when (has class VIRTUAL) (put "virtual "))

unfoldable pub write_func_class : ℕ → ℕ → Text
write_func_class f class = when (has class THUNK) (put "[thunk]: ") ⨾ write_access f class ⨾ write_member_type f class

-- the end of write_pre
unfoldable pub write_qualifier_space : ℕ → Text
write_qualifier_space f = pick (has f SPACE_BEFORE_POINTER) write_space_ptr write_space

unfoldable pub write_storage_class : ℕ → ℕ → Text
write_storage_class f sc = when (has sc CONST) (write_qualifier_space f ⨾ put "const") ⨾ when (has sc VOLATILE) (write_qualifier_space f ⨾ put "volatile")

-- the space before `*`, `&` and `&&`
unfoldable pub write_hug : ℕ → Text
write_hug f = pick (has f HUG_TYPE) (when (has f SPACE_BEFORE_POINTER) write_space_ptr) write_space

unfoldable pub write_one_qual : ℕ → ℕ → String → Text
write_one_qual sc flag s = when (has sc flag) (write_space ⨾ put s)

unfoldable pub write_memfn_qualifiers : ℕ → ℕ → Text
write_memfn_qualifiers f sc =
    unless (pick (has f NO_MS_THISTYPE) (has f NO_CV_THISTYPE) false)
    (write_one_qual sc CONST "const" ⨾ write_one_qual sc VOLATILE "volatile" ⨾ when (has f WITH_PTR64) (write_one_qual sc (PTR64) "__ptr64")
    ⨾ write_one_qual sc RESTRICT "__restrict" ⨾ write_one_qual sc LVALUE_QUAL "&" ⨾ write_one_qual sc RVALUE_QUAL "&&")

abbrev pub is_basic : ℕ → Bool
is_basic k = pick (nat_le (kind_number Void) k) (nat_le k (kind_number Ldouble)) false

-- the basic types, of which Int64 to Uint128 have two names
unfoldable pub write_basic : ℕ → ℕ → Text
write_basic f k =
    pick (pick (has f MS_TYPENAMES) (pick (nat_le (kind_number Int64) k) (nat_le k (kind_number Uint128)) false) false)
    (put (slice_index_or renamed (k - kind_number Int64) ""))
    (when (is_basic k) (put (slice_index_or basics (k - kind_number Void) "")))

-- write_pre of the types that hold no other; nothing for None, ConstantString, EmptyParameterPack and RTTIType
unfoldable pub write_plain : ℕ → ℕ → ℕ → ℕ → Text
write_plain f k m n =
    by_kind k
    ((CXXVBTable, write_storage_class f m)
    ∷ (CXXVFTable, write_storage_class f m)
    ∷ (VCallThunk, put "[thunk]: " ⨾ write_calling_conv f n)
    ∷ (TemplateParameterWithIndex, put "`template-parameter" ⨾ number m ⨾ put "'")
    ∷ (ThreadSafeStaticGuard, put "TSS" ⨾ number m)
    ∷ (Constant, number m)
    ∷ (VarArgs, put "...")
    ∷ (Nullptr, put "std::nullptr_t")
    ∷ []) (when (is_basic k) (write_basic f k ⨾ write_storage_class f m))

-- ` (__cdecl `: the parenthesis of a pointer to a function
unfoldable pub write_opening : ℕ → ℕ → Text
write_opening f conv = write_space ⨾ put "(" ⨾ write_calling_conv f conv

-- what stands before `*`, `&` or `&&`; `first` is the first half of the type pointed to, `returned` that of what it returns
unfoldable pub write_pointee : ℕ → Tree → Text → Text → Text
write_pointee f Tree.none first returned = first
write_pointee f (node k x s a b c) first returned =
    by_kind k
    ((MemberFunction, returned ⨾ write_opening f (q x))
    ∷ (NonMemberFunction, returned ⨾ write_opening f (q x))
    ∷ (Array, first ⨾ write_space ⨾ put "(")
    ∷ []) first

-- the `)` to that `(`
unfoldable pub write_closing : ℕ → Text
write_closing k = when (or (is_kind MemberFunction k) (or (is_kind NonMemberFunction k) (is_kind Array k))) (put ")")

-- PrivateStatic 0, ProtectedStatic 1, PublicStatic 2; the others write nothing
unfoldable pub write_var_kind : ℕ → Text
write_var_kind kind = put (slice_index_or ("private: static " ∷ "protected: static " ∷ "public: static " ∷ []) kind "")

-- write_post of a VCallThunk
unfoldable pub write_flat : ℕ → ℕ → Text
write_flat f n = put "{" ⨾ number n ⨾ comma f ⨾ put "{flat}}"

-- a list of types has one that is not an EmptyParameterPack
unfoldable pub has_some : Tree → Bool
has_some Tree.none = false
has_some (node k x s a b c) = pick (is_kind EmptyParameterPack (kind_of b)) (has_some a) true

-- `types` is the text of the parameters
unfoldable pub write_tmpl_params : Tree → Text → Text
write_tmpl_params params types = put "<" ⨾ unless (is_empty params) (types ⨾ space_where after_close) ⨾ put ">"

-- a guard's index, kept as the index and one in the ParseResult
unfoldable pub write_guard : ℕ → Text
write_guard g = unless (g == 0) (put "{" ⨾ lit (unsigned (g - 1)) ⨾ put "}")

-- write_operator_name, but for the two RTTI descriptors with operands
unfoldable pub write_operator_name : ℕ → ℕ → Text
write_operator_name g op = put (slice_index_or operators op "") ⨾ when (or (op == LocalStaticGuard) (op == LocalStaticThreadGuard)) (write_guard g)

-- an operator, and the space before it
unfoldable pub write_spaced_operator : ℕ → ℕ → Text
write_spaced_operator g op = write_space ⨾ write_operator_name g op

unfoldable pub write_next : ℕ → ℕ → Text
write_next f n = comma f ⨾ number n

unfoldable pub write_base_class_descriptor : ℕ → ℕ → ℕ → ℕ → ℕ → Text
write_base_class_descriptor f nv vbptr vbtable flags =
    put "`RTTI Base Class Descriptor at (" ⨾ number nv ⨾ write_next f vbptr ⨾ write_next f vbtable ⨾ write_next f flags ⨾ put ")'"

-- write_one_name of the names that hold no other
unfoldable pub write_plain_name : ℕ → ℕ → List ℕ → Text
write_plain_name k n s =
    by_kind k
    ((Md5, put "??@" ⨾ lit s ⨾ put "@")
    ∷ (NonTemplate, lit s)
    ∷ (AsInterface, put "[" ⨾ lit s ⨾ put "]")
    ∷ (Discriminator, put "`" ⨾ number n ⨾ put "'")
    ∷ (AnonymousId, put "`anonymous namespace'")
    ∷ (Anonymous, put "`anonymous namespace'")
    ∷ []) none

-- the beginning of write_name
unfoldable pub write_name_space : ℕ → Text
write_name_space f = pick (has f SPACE_BEFORE_POINTER) write_space_ptr write_space_pre

-- is a name the LiteralOperatorName
unfoldable pub is_literal : Tree → Bool
is_literal Tree.none = false
is_literal (node k x s a b c) = pick (is_kind Operator k) (p x == LiteralOperatorName) false

-- the end of write_name for an operator; `first` is the scope's first name, `cast` what a Conversion is called
unfoldable pub write_own_operator : ℕ → Text → Bool → Text → ℕ → Text
write_own_operator g cast alone first op =
    pick (op == Ctor) (pick alone (put "[invalid]") first)
    (pick (op == Dtor) (pick alone (put "[invalid]") (put "~" ⨾ first))
    (pick (op == VBTable) (put "`vbtable'{for `")
    (pick (op == Conversion) cast
    (pick (op == LiteralOperatorName) none
    (write_spaced_operator g op)))))

-- the end of write_name; `one` is write_one_name of the same name, `parsed` the text of what a ParsedName holds
unfoldable pub write_own_name : ℕ → Text → Bool → Text → Tree → Text → Text → Text
write_own_name g cast alone first Tree.none one parsed = none
write_own_name g cast alone first (node k x s a b c) one parsed =
    by_kind k ((Operator, write_own_operator g cast alone first (p x)) ∷ (ParsedName, parsed) ∷ (AnonymousId, none) ∷ (Anonymous, none) ∷ []) one

-- a Conversion where write_name has no member function's type
unfoldable pub no_cast : Text
no_cast = write_spaced_operator 0 Conversion

-- `intersects(NAME_ONLY | NO_FUNCTION_RETURNS)`
abbrev pub no_return : ℕ → Bool
no_return f = or (has f NAME_ONLY) (has f NO_FUNCTION_RETURNS)

unfoldable mutual
  pub serialize : ℕ → Tree → Text
  serialize f Tree.none = none
  serialize f (node k x s a b c) =
      when (is_kind ParseResult k)
      (unless (no_return f) (write_pre f b) ⨾ write_name f (p x) (write_cast f b) a ⨾ unless (has f NAME_ONLY) (write_post f b))

  -- the first half of a type
  pub write_pre : ℕ → Tree → Text
  write_pre f Tree.none = none
  write_pre f (node k x s a b c) =
      let pointer : String → Text = λ mark. write_pointee f a (write_pre f a) (write_return f a) ⨾ write_hug f ⨾ put mark ⨾ write_storage_class f (p x) in
      let class : String → Text = λ name. unless (has f NO_CLASS_TYPE) (put name) ⨾ write_name f 0 no_cast a ⨾ write_storage_class f (p x) in
      by_kind k
      ((MemberFunction, write_func_class f (r x) ⨾ write_pre f a ⨾ write_calling_conv f (q x))
      ∷ (MemberFunctionPointer, write_pre f a ⨾ write_opening f (q x) ⨾ write_space ⨾ write_space ⨾ write_name f 0 no_cast c ⨾ put "::*")
      ∷ (NonMemberFunction, write_pre f a ⨾ write_calling_conv f (q x))
      ∷ (Ptr, pointer "*")
      ∷ (Ref, pointer "&")
      ∷ (RValueRef, pointer "&&")
      ∷ (Array, write_pre f a ⨾ write_storage_class f (p x))
      ∷ (Var, write_var_kind (q x) ⨾ write_pre f a ⨾ write_storage_class f (p x))
      ∷ (Alias, write_name f 0 no_cast a ⨾ write_storage_class f (p x))
      ∷ (Struct, class "struct ")
      ∷ (Union, class "union ")
      ∷ (Class, class "class ")
      ∷ (Enum, class "enum ")
      ∷ []) (write_plain f k (p x) (q x))

  -- the first half of what a function returns
  pub write_return : ℕ → Tree → Text
  write_return f Tree.none = none
  write_return f (node k x s a b c) = write_pre f a

  -- the second half of a type; an RValueRef has that of a Ref (M-106), in the crate none
  pub write_post : ℕ → Tree → Text
  write_post f Tree.none = none
  write_post f (node k x s a b c) =
      let function = put "(" ⨾ write_types f b ⨾ put ")" ⨾ write_memfn_qualifiers f (p x) ⨾ write_post f a in
      by_kind k
      ((MemberFunction, function)
      ∷ (NonMemberFunction, function)
      ∷ (MemberFunctionPointer, put ")(" ⨾ write_types f b ⨾ put ")" ⨾ write_post f a ⨾ write_one_qual (p x) CONST "const")
      ∷ (CXXVBTable, write_scope f a ⨾ put "'}}")
      ∷ (Ptr, write_closing (kind_of a) ⨾ write_post f a)
      ∷ (Ref, write_closing (kind_of a) ⨾ write_post f a)
      ∷ (RValueRef, write_closing (kind_of a) ⨾ write_post f a)
      ∷ (Array, put "[" ⨾ number (q x) ⨾ put "]" ⨾ write_post f a)
      ∷ (Var, write_post f a)
      ∷ (CXXVFTable, unless (is_empty a) (put "{for `" ⨾ write_scope f a ⨾ put "'}"))
      ∷ (VCallThunk, write_flat f (p x))
      ∷ []) none

  -- a list of types: those before, and the last unless it is an EmptyParameterPack
  pub write_types : ℕ → Tree → Text
  write_types f Tree.none = none
  write_types f (node k x s a b c) =
      write_types f a ⨾ unless (is_kind EmptyParameterPack (kind_of b)) (when (has_some a) (comma f) ⨾ write_pre f b ⨾ write_post f b)

  -- a ParseResult's own type, as the name of a Conversion
  pub write_cast : ℕ → Tree → Text
  write_cast f Tree.none = no_cast
  write_cast f (node k x s a b c) = pick (is_kind MemberFunction k) (put "operator " ⨾ write_pre f a ⨾ write_post f a) no_cast

  pub write_one_name : ℕ → Tree → Text
  write_one_name f Tree.none = none
  write_one_name f (node k x s a b c) =
      by_kind k
      ((Operator, write_spaced_operator 0 (p x))
      ∷ (RttiTypeDescriptor, write_space ⨾ write_pre f a ⨾ put "::`RTTI Type Descriptor'")
      ∷ (RttiBaseClassDescriptor, write_space ⨾ write_base_class_descriptor f (p x) (q x) (r x) (s₄ x))
      ∷ (Template, write_one_name f a ⨾ write_tmpl_params b (write_types f b))
      ∷ (ParsedName, put "`" ⨾ serialize f a ⨾ put "'")
      ∷ []) (write_plain_name k (p x) s)

  -- a scope, from its last place (the outermost name) to its first
  pub write_scope : ℕ → Tree → Text
  write_scope f Tree.none = none
  write_scope f (node k x s a b c) = write_one_name f b ⨾ unless (is_empty a) (put "::") ⨾ write_scope f a

  -- the name that was read first, the innermost
  pub write_first : ℕ → Tree → Text
  write_first f Tree.none = none
  write_first f (node k x s a b c) = pick (is_empty a) (write_one_name f b) (write_first f a)

  -- what a ParsedName holds
  pub write_parsed : ℕ → Tree → Text
  write_parsed f Tree.none = none
  write_parsed f (node k x s a b c) = serialize f a

  -- a symbol; g is its guard's index and one, `cast` what a Conversion is called
  pub write_name : ℕ → ℕ → Text → Tree → Text
  write_name f g cast Tree.none = none
  write_name f g cast (node k x s a b c) =
      write_name_space f
      ⨾ when (is_literal a) (write_space ⨾ put "operator \"\"")
      ⨾ write_scope f b
      ⨾ unless (or (is_empty b) (is_literal a)) (put "::")
      ⨾ write_own_name g cast (is_empty b) (write_first f b) a (write_one_name f a) (write_parsed f a)
