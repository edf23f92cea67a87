-- The ordered-choice grammar of the crate's parser (src/lib.rs), reader by reader. A name stands for the reader of the same name: `pointee` is `read_pointee`.
-- A part opens where the crate calls the reader of one node's thing: `part X` is such a call, and `body X` is what that reader does.
-- A reader that opens no part of its own (a list, a pointee, a template's inside) is called by its name.
-- The tables of choices (type_forms, type_letters, symbol_forms, name_forms, parse_forms) stand in the crate `forms`, in the order in which the crate tries them.
-- Assumes nothing: these are definitions.
use Rattle.std.specs.Prelude.{ℕ, zero, suc, ◌+◌, ◌-◌, ◌/◌, ◌%◌, List, [], ◌∷◌, Bool, true, false, length, drop, ltb, eqb, Ok, Err, Some, None}
use Rattle.scan.specs.Bytes.{pick, bytes, starts, up_to}
use Rattle.scan.specs.Number.{read_guard_number}
use Rattle.scan.specs.Name.{read_md5_name}
use Rattle.strings.specs.Encoded.{read_encoded_string, Encoded}
use Rattle.letters.specs.StorageClass.{CONST, VOLATILE, PTR64}
use Rattle.letters.specs.Classes.{read_calling_conv, read_func_class, read_storage_class, read_qualifier, read_storage_class_for_return, read_func_qualifiers, read_string_width, read_guard_marker}
use Rattle.letters.specs.FuncClass.{STATIC}
use Rattle.operators.specs.Operators.{read_operator, LocalStaticGuard, LocalStaticThreadGuard, RTTITypeDescriptor, RTTIBaseClassDescriptor}
use Rattle.forms.specs.Types.{type_forms, type_letters, type_reference, Reference}
use Rattle.forms.specs.Begins.{parse_forms, symbol_forms, name_forms}
use Rattle.forms.specs.declared.types.TypeForm.{TypeForm}
use Rattle.forms.specs.declared.types.TypeForm.TheVariants as form
use Rattle.forms.specs.declared.types.TypeLetter.{TypeLetter}
use Rattle.forms.specs.declared.types.TypeLetter.TheVariants as letter
use Rattle.forms.specs.declared.begins.ParseForm.{ParseForm}
use Rattle.forms.specs.declared.begins.ParseForm.TheVariants as parse
use Rattle.forms.specs.declared.begins.SymbolForm.{SymbolForm}
use Rattle.forms.specs.declared.begins.SymbolForm.TheVariants as symbol
use Rattle.forms.specs.declared.begins.NameForm.{NameForm}
use Rattle.forms.specs.declared.begins.NameForm.TheVariants as name
use Rattle.grammar.specs.Program.{Program, ret, fail, look, when, skip, part, node}
use Rattle.grammar.specs.Words.{◌>>=◌, ◌>>◌, ◌⇒◌∥◌, ◌↝◌∥◌, ordered, at_end, expect, refuse_if, here, leaf, span, class, digit, memo, set_memo, memorize_name, memorize_type, name_of, type_of, negative, negated, number, unsigned, string, hex_digits}
use Rattle.node.specs.Kind.{Kind, NamePlace, TypePlace, ParseResult, Symbol, OuterSymbol, Md5, Operator, RttiTypeDescriptor, RttiBaseClassDescriptor, NonTemplate, AsInterface, Template, Discriminator, ParsedName, AnonymousId, Anonymous, None, MemberFunction, MemberFunctionPointer, NonMemberFunction, CXXVBTable, CXXVFTable, VCallThunk, TemplateParameterWithIndex, ThreadSafeStaticGuard, Constant, ConstantString, Ptr, Ref, RValueRef, Array, Var, Alias, Struct, Union, Class, Enum, Basic, VarArgs, EmptyParameterPack, Nullptr, RTTIType, kind_number}
use Rattle.grammar.specs.declared.Memo.{Memo}

-- the parts: each with what its reader is handed
pub data Tag : Type 0 where
  -- parse; the symbols that it makes itself, of `??@`, `?$` and `?$TSS`, and the names of the first two
  Parse OuterMd5 OuterTemplate OuterGuard MdFive OuterName : Tag
  -- the symbol's own type; none behind `??@` and `?$`; the guard's number behind `?$TSS`
  SymbolType NoType : Tag
  GuardType : ℕ → Tag
  -- read_name(function), read_unqualified_name(function), read_nested_name
  Name : Bool → Tag
  Unqualified : Bool → Tag
  Nested : Tag
  -- read_var_type(sc); the function under `P6` and `A6`; an inner dimension, read_nested_array(dimension)
  VarType : ℕ → Tag
  Func : Tag
  Dimension : ℕ → Tag
  -- the types that are a letter of a list or a return: `Z`, `X`, `@`
  Variadic NoParams NoReturn : Tag

-- a part answers with its node; a name also with whether it is a guard's, and an inner dimension with the class of the array's element
abbrev pub Ans : Tag → Type 0
Ans Parse = ℕ
Ans OuterMd5 = ℕ
Ans OuterTemplate = ℕ
Ans OuterGuard = ℕ
Ans MdFive = ℕ
Ans OuterName = ℕ
Ans SymbolType = ℕ
Ans NoType = ℕ
Ans (GuardType n) = ℕ
Ans (Name function) = ℕ × Bool
Ans (Unqualified function) = ℕ × Bool
Ans Nested = ℕ
Ans (VarType sc) = ℕ
Ans Func = ℕ
Ans (Dimension n) = ℕ × ℕ
Ans Variadic = ℕ
Ans NoParams = ℕ
Ans NoReturn = ℕ

abbrev pub Reading : Type 0 → Type 1
Reading A = Program Tag Ans A

-- close a node: its numbers, and its references, each a node's number and one more
abbrev pub close : Kind → List ℕ → List ℕ → Reading ℕ
close k numbers refs = node (kind_number k) numbers refs ret

abbrev pub to : ℕ → ℕ
to n = n + 1

-- an entry of a list goes behind its last place; a list is the reference to its last place, and 0 where it is empty
abbrev pub place : Kind → ℕ → ℕ → Reading ℕ
place k entry last = do
  p ← close k [] (last ∷ to entry ∷ [])
  ret (to p)

-- read_name(function), read_unqualified_name(function) and read_nested_name, as they are called: a digit is a stored name and opens no part
abbrev pub name' : Bool → Reading ℕ
name' function = do
  (n, guard) ← part (Name function) ret
  ret n

abbrev pub stored : ℕ → Reading (ℕ × Bool)
stored i = do
  n ← name_of i
  ret (n, false)

abbrev pub unqualified_name : Bool → Reading (ℕ × Bool)
unqualified_name function = digit stored (part (Unqualified function) ret)

abbrev pub nested_name : Reading ℕ
nested_name = digit name_of (part Nested ret)

-- read_var_type(sc), as it is called: where it comes to a stored type it opens no part
abbrev pub reference_or : Reference → Reading ℕ → Reading ℕ
reference_or (Some (i, n)) p = skip n (type_of i)
reference_or None p = p

abbrev pub var_type : ℕ → Reading ℕ
var_type sc = look λ s at. reference_or (type_reference (drop at s)) (part (VarType sc) ret)

-- read_scope
unfoldable pub scope_from : ℕ → ℕ → Reading ℕ
-- not reached: each turn takes a byte, so the turns never run out (proofs/Turns.antt)
scope_from zero last = fail
scope_from (suc turns) last =
    "@" ⇒ ret last ∥ (do
      n ← nested_name
      next ← place NamePlace n last
      scope_from turns next)

unfoldable pub scope : Reading ℕ
scope = look λ s at. scope_from (length s - at + 1) 0

-- read_params: a digit is a stored type; another is stored if it took more than one byte. `Z` is read as variable arguments and is not the closing one
unfoldable pub list_end : ℕ → Reading ℕ
list_end last =
    "Z" ↝ (do
      t ← part Variadic ret
      place TypePlace t last) ∥
    at_end (ret last) (do
      expect "@"
      ret last)

unfoldable pub stored_param : ℕ → ℕ → Reading ℕ
stored_param last i = do
  t ← type_of i
  place TypePlace t last

unfoldable pub new_param : ℕ → Reading ℕ
new_param last = do
  from ← here
  t ← var_type 0
  end ← here
  when (ltb 1 (end - from)) (memorize_type t) (ret tt)
  place TypePlace t last

unfoldable pub params_from : ℕ → ℕ → Reading ℕ
-- not reached: each turn takes a byte, so the turns never run out (proofs/Turns.antt)
params_from zero last = fail
params_from (suc turns) last =
    "@" ↝ list_end last ∥
    "Z" ↝ list_end last ∥
    at_end (list_end last) (do
      next ← digit (stored_param last) (new_param last)
      params_from turns next)

unfoldable pub params : Reading ℕ
params = look λ s at. params_from (length s - at + 1) 0

-- read_func_params: a leading `X` is one void
unfoldable pub func_params : Reading ℕ
func_params = do
  l ←
      "X" ↝ (do
        t ← part NoParams ret
        place TypePlace t 0) ∥
      params
  expect "Z"
  ret l

-- read_template_name: a template has its own memo, and the outer one comes back
abbrev pub empty_memo : Memo
empty_memo = let zeros : List ℕ = 0 ∷ 0 ∷ 0 ∷ 0 ∷ 0 ∷ 0 ∷ 0 ∷ 0 ∷ 0 ∷ 0 ∷ [] in record { names = zeros; types = zeros; names_len = 0; types_len = 0 }

unfoldable pub template_name : Reading ℕ
template_name = do
  saved ← memo
  set_memo empty_memo
  (n, guard) ← unqualified_name false
  l ← params
  set_memo saved
  close Template [] (to n ∷ l ∷ [])

-- a plain name, in both name readers
unfoldable pub plain_name : Reading ℕ
plain_name = do
  from ← here
  taken ← string
  n ← close NonTemplate (from ∷ (taken - 1) ∷ []) []
  memorize_name n
  ret n

-- read_special_name: two descriptors have operands; two operators are guards
unfoldable pub rtti_type_descriptor : Reading ℕ
rtti_type_descriptor = do
  expect "?"
  sc ← class read_storage_class
  t ← var_type sc
  close RttiTypeDescriptor (sc ∷ []) (to t ∷ [])

unfoldable pub rtti_base_class_descriptor : Reading ℕ
rtti_base_class_descriptor = do
  nv_offset ← number
  vbptr_offset ← number
  vbtable_offset ← number
  flags ← number
  close RttiBaseClassDescriptor (nv_offset ∷ vbptr_offset ∷ vbtable_offset ∷ flags ∷ []) []

abbrev pub is_guard : ℕ → Bool
is_guard operator = pick (eqb operator LocalStaticGuard) true (eqb operator LocalStaticThreadGuard)

unfoldable pub special_name : Reading (ℕ × Bool)
special_name = do
  operator ← leaf read_operator
  n ← when (eqb operator RTTITypeDescriptor) rtti_type_descriptor (when (eqb operator RTTIBaseClassDescriptor) rtti_base_class_descriptor (close Operator (operator ∷ []) []))
  ret (n, is_guard operator)

-- read_unqualified_name(function), its digit apart
unfoldable pub unqualified_body : Bool → Reading (ℕ × Bool)
unqualified_body function =
    "?$" ⇒ (do
      n ← template_name
      when function (ret tt) (memorize_name n)
      ret (n, false)) ∥
    "?" ⇒ special_name ∥ (do
      n ← plain_name
      ret (n, false))

-- read_nested_name. A namespace with no id is not stored; an id has a digit, as the works asked (docs/DIFFERENCES.md)
unfoldable pub nested_of : NameForm → Reading ℕ
-- not reached: nested_name takes a digit before it opens this part
nested_of (name.Stored i) = name_of i
-- not reached: name_forms has no such entry, since nested_body takes `??` before
nested_of name.Parsed = fail
nested_of name.Template = do
  n ← template_name
  memorize_name n
  ret n
nested_of name.AnonymousId = do
  from ← here
  digits ← hex_digits
  refuse_if (eqb digits 0)
  expect "@"
  n ← close AnonymousId ((from - 2) ∷ (digits + 2) ∷ []) []
  memorize_name n
  ret n
nested_of name.Anonymous = do
  expect "@"
  close Anonymous [] []
nested_of name.Interface = do
  from ← here
  taken ← string
  expect "@"
  n ← close AsInterface (from ∷ (taken - 1) ∷ []) []
  memorize_name n
  ret n
nested_of name.Discriminator = do
  discriminator ← number
  close Discriminator (discriminator ∷ []) []
-- not reached: name_forms has no such entry, and nested_body's last choice is plain_name itself
nested_of name.Plain = plain_name

unfoldable pub nested_body : Reading ℕ
nested_body =
    "??" ↝ (do
      expect "?"
      p ← part Parse ret
      close ParsedName [] (to p ∷ [])) ∥
    ordered name_forms nested_of plain_name

-- read_name(function)
unfoldable pub name_body : Bool → Reading (ℕ × Bool)
name_body function = do
  (n, guard) ← unqualified_name function
  l ← scope
  s ← close Symbol [] (to n ∷ l ∷ [])
  ret (s, guard)

-- read_pointee
abbrev pub pointee_class : Reading ℕ
pointee_class = do
  ptr64 ← "E" ⇒ ret PTR64 ∥ ret 0
  sc ← class read_storage_class
  ret (sc + ptr64)

unfoldable pub pointee : Reading ℕ
pointee = do
  sc ← pointee_class
  var_type sc

-- read_nested_array(dimension): past the last dimension the element, else one more dimension, which is a part
abbrev pub element_letter : Reading ℕ
element_letter = "B" ⇒ ret CONST ∥ "C" ⇒ ret (CONST + VOLATILE) ∥ "D" ⇒ ret (CONST + VOLATILE) ∥ "A" ⇒ ret 0 ∥ fail

abbrev pub element_class : Reading ℕ
element_class = "$$C" ⇒ element_letter ∥ ret 0

unfoldable pub element : Reading (ℕ × ℕ)
element = do
  sc ← element_class
  t ← var_type 0
  ret (t, sc)

abbrev pub nested_array : ℕ → Reading (ℕ × ℕ)
nested_array zero = element
nested_array (suc dimension) = part (Dimension (suc dimension)) ret

unfoldable pub dimensions : ℕ → Reading (ℕ × ℕ)
dimensions dimension = do
  len ← number
  (inner, sc) ← nested_array (dimension - 1)
  n ← close Array (sc ∷ len ∷ []) (to inner ∷ [])
  ret (n, sc)

-- read_array: the outermost dimension is the part that is open
unfoldable pub array : Reading ℕ
array = do
  dimension ← number
  refuse_if (pick (eqb dimension 0) true (negative dimension))
  (a, sc) ← dimensions dimension
  ret a

-- read_func_return_type(sc): a structor has none
unfoldable pub func_return_type : ℕ → Reading ℕ
func_return_type sc = "@" ↝ part NoReturn ret ∥ var_type sc

-- read_func_type(read_qualifiers)
unfoldable pub func_type : Bool → Reading ℕ
func_type read_qualifiers = do
  sc ← when read_qualifiers (class read_func_qualifiers) (ret 0)
  conv ← leaf read_calling_conv
  var_sc ← "?" ⇒ class read_storage_class ∥ ret 0
  t ← var_type var_sc
  l ← func_params
  close NonMemberFunction (sc ∷ conv ∷ []) (to t ∷ l ∷ [])

-- read_member_function_pointer(read_qualifiers): a qualifier and no function class, or the other way round
unfoldable pub member_classes : Bool → ℕ → Reading (ℕ × ℕ)
member_classes true ptr64 = do
  q ← class read_qualifier
  ret (q + ptr64, 0)
member_classes false ptr64 = do
  func_class ← leaf read_func_class
  ret (ptr64, func_class)

-- behind its name
abbrev pub member_pointer : Bool → ℕ → Reading ℕ
member_pointer read_qualifiers s = do
  ptr64 ← "E" ⇒ ret PTR64 ∥ ret 0
  (sc, func_class) ← member_classes read_qualifiers ptr64
  conv ← leaf read_calling_conv
  return_sc ← leaf read_storage_class_for_return
  t ← func_return_type return_sc
  l ← func_params
  close MemberFunctionPointer (sc ∷ conv ∷ func_class ∷ []) (to t ∷ l ∷ to s ∷ [])

unfoldable pub member_function_pointer : Bool → Reading ℕ
member_function_pointer read_qualifiers = do
  s ← name' true
  member_pointer read_qualifiers s

-- read_var_type(sc), its references apart: what follows the prefixes. `B`, `Q`, `R` and `S` drop the class handed in
abbrev pub named : Kind → ℕ → Reading ℕ
named k sc = do
  n ← name' false
  close k (sc ∷ []) (to n ∷ [])

abbrev pub pointing : Kind → ℕ → Reading ℕ
pointing k sc = do
  t ← pointee
  close k (sc ∷ []) (to t ∷ [])

unfoldable pub letter_type : ℕ → TypeLetter → Reading ℕ
letter_type sc letter.Parameter = do
  n ← number
  close TemplateParameterWithIndex (negated n ∷ []) []
letter_type sc letter.Union = named Union sc
letter_type sc letter.Struct = named Struct sc
letter_type sc letter.Class = named Class sc
letter_type sc letter.Ref = pointing Ref sc
letter_type sc letter.VolatileRef = pointing Ref VOLATILE
letter_type sc letter.Ptr = pointing Ptr sc
letter_type sc letter.ConstPtr = pointing Ptr CONST
letter_type sc letter.VolatilePtr = pointing Ptr VOLATILE
letter_type sc letter.ConstVolatilePtr = pointing Ptr (CONST + VOLATILE)
letter_type sc letter.Array = array
letter_type sc (letter.Basic k) = close (Basic k) (sc ∷ []) []

-- another letter is taken, and behind `_` the next one too
abbrev pub no_letter : Reading ℕ
no_letter = look λ s at. skip (up_to (pick (starts (bytes "_") (drop at s)) 2 1) (drop at s)) fail

unfoldable pub plain_type : ℕ → Reading ℕ
plain_type sc = ordered type_letters (letter_type sc) no_letter

unfoldable pub form_type : ℕ → TypeForm → Reading ℕ
form_type sc form.Enum = named Enum sc
form_type sc form.FunctionRef = do
  f ← part Func ret
  close Ref (sc ∷ []) (to f ∷ [])
form_type sc form.FunctionPtr = do
  f ← part Func ret
  close Ptr (sc ∷ []) (to f ∷ [])
form_type sc form.MemberFunctionPtr = member_function_pointer true
form_type sc form.Constant = do
  n ← number
  close Constant (n ∷ []) []
form_type sc form.TemplateParameter = do
  n ← number
  close TemplateParameterWithIndex (n ∷ []) []
form_type sc form.Array = array
form_type sc form.RValueRef = pointing RValueRef sc
form_type sc form.EmptyPack = close EmptyParameterPack [] []
form_type sc form.Nullptr = close Nullptr [] []
form_type sc form.Function = func_type false
form_type sc form.QualifiedFunction = func_type true
form_type sc form.Alias = do
  n ← name' true
  close Alias (sc ∷ []) (to n ∷ [])
form_type sc form.Reclassed = do
  q ← class read_qualifier
  plain_type q
form_type sc form.MemberPointer = do
  expect "?"
  member_function_pointer false
form_type sc form.Plain = plain_type sc

unfoldable pub var_type_body : ℕ → Reading ℕ
var_type_body sc = ordered type_forms (form_type sc) (plain_type sc)

-- read_encoded_string: the node has the range of the characters
abbrev pub chars_is : ℕ → Encoded → Reading ℕ
chars_is at (Ok c) = skip c.taken (close ConstantString ((at + c.start) ∷ (c.taken - c.start) ∷ []) [])
chars_is at (Err n) = skip n fail

unfoldable pub encoded_string : ℕ → Reading ℕ
encoded_string width = look λ s at. chars_is at (read_encoded_string width (drop at s))

-- parse, the symbol's type
abbrev pub is_static : ℕ → Bool
is_static func_class = eqb (func_class / STATIC % 2) 1

unfoldable pub member_function : Reading ℕ
member_function = do
  func_class ← leaf read_func_class
  sc ← when (is_static func_class) (ret 0) (class read_func_qualifiers)
  conv ← leaf read_calling_conv
  return_sc ← leaf read_storage_class_for_return
  t ← func_return_type return_sc
  l ← func_params
  close MemberFunction (sc ∷ conv ∷ func_class ∷ []) (to t ∷ l ∷ [])

abbrev pub plain_function : Reading ℕ
plain_function = do
  conv ← leaf read_calling_conv
  return_sc ← leaf read_storage_class_for_return
  t ← var_type return_sc
  l ← func_params
  close NonMemberFunction (0 ∷ conv ∷ []) (to t ∷ l ∷ [])

unfoldable pub symbol_type_of : SymbolForm → Reading ℕ
symbol_type_of (symbol.Variable kind) = do
  t ← var_type 0
  sc ← class read_storage_class
  close Var (sc ∷ kind ∷ []) (to t ∷ [])
symbol_type_of symbol.VFTable = do
  sc ← class read_qualifier
  l ← scope
  close CXXVFTable (sc ∷ []) (l ∷ [])
symbol_type_of symbol.VBTable = do
  sc ← class read_qualifier
  l ← scope
  close CXXVBTable (sc ∷ []) (l ∷ [])
symbol_type_of symbol.ExternC = close None [] []
symbol_type_of symbol.Function = plain_function
symbol_type_of symbol.String = do
  width ← leaf read_string_width
  encoded_string width
symbol_type_of symbol.VCallThunk = do
  expect "B"
  offset ← number
  expect "A"
  conv ← leaf read_calling_conv
  close VCallThunk (offset ∷ conv ∷ []) []
symbol_type_of symbol.Rtti = close RTTIType [] []
-- not reached, these two: symbol_forms has no such entries, and symbol_type_body's last choices do the same
symbol_type_of symbol.Member = member_function
symbol_type_of symbol.Nothing = close None [] []

unfoldable pub symbol_type_body : Reading ℕ
symbol_type_body = ordered symbol_forms symbol_type_of (at_end (close None [] []) member_function)

-- parse, a guard's index: one more than it, 0 for none
unfoldable pub index_and_one : Reading ℕ
index_and_one =
    at_end (ret 0) (do
      index ← unsigned
      ret (index + 1))

unfoldable pub guard_index : Bool → Reading ℕ
guard_index false = ret {A = ℕ} 0
guard_index true = do
  visible ← leaf read_guard_marker
  index_and_one

abbrev pub parsed : ℕ → ℕ → ℕ → Reading ℕ
parsed index s t = close ParseResult (index ∷ []) (to s ∷ to t ∷ [])

unfoldable pub parse_of : ParseForm → Reading ℕ
parse_of parse.Md5 = do
  s ← part OuterMd5 ret
  t ← part NoType ret
  parsed 0 s t
parse_of parse.Guard = do
  n ← leaf read_guard_number
  s ← part OuterGuard ret
  t ← part (GuardType n) ret
  parsed 0 s t
parse_of parse.Template = do
  s ← part OuterTemplate ret
  t ← part NoType ret
  parsed 0 s t
parse_of parse.Name = do
  (s, guard) ← part (Name true) ret
  index ← guard_index guard
  t ← part SymbolType ret
  parsed index s t

unfoldable pub body : (tag : Tag) → Reading (Ans tag)
body Parse = do
  expect "?"
  ordered parse_forms parse_of (parse_of parse.Name)
body OuterMd5 = do
  n ← part MdFive ret
  close OuterSymbol [] (to n ∷ [])
body MdFive = do
  from ← here
  taken ← span read_md5_name
  close Md5 (from ∷ (taken - 1) ∷ []) []
body OuterTemplate = do
  n ← part OuterName ret
  close Symbol [] (to n ∷ [])
body OuterName = template_name
body OuterGuard = do
  n ← nested_name
  l ← scope
  close OuterSymbol [] (to n ∷ l ∷ [])
body SymbolType = symbol_type_body
body NoType = close None [] []
body (GuardType n) = do
  expect "4HA"
  close ThreadSafeStaticGuard (n ∷ []) []
body (Name function) = name_body function
body (Unqualified function) = unqualified_body function
body Nested = nested_body
body (VarType sc) = var_type_body sc
body Func = func_type false
body (Dimension dimension) = dimensions dimension
body Variadic = do
  expect "Z"
  close VarArgs [] []
body NoParams = do
  expect "X"
  close (Basic 0) (0 ∷ []) []
body NoReturn = do
  expect "@"
  close None [] []
