-- The grammar's productions are funded: the bytes that a reading takes pay for its nodes. Each proof follows its production's lines, in the order of specs/Grammar.antt.
-- `Earns c g p`: with a credit of c before it, p comes to its answer with g or more; a byte earns two, a node costs one. The number behind `then` is the credit between two lines.
--     grammar-pays     a reading of C bytes counts at most 2C - 1 nodes (`?$@` counts 5)
--     grammar-capped   so a cap on the nodes that is twice the symbol's length or more changes nothing
-- Assumes nothing.
use Prim.Native.Nat.{ℕ, zero, suc, ◌+◌, ◌-◌, ◌*◌, ◌≤◌, min}
use Prim.Native.String.{String}
use mathlib.Core.Path.{◌≡◌, refl}
use mathlib.Core.List.{List, []}
use mathlib.Core.Bool.{Bool, true, false}
use native.Mathlib.Omega.{arith}
use lib.ListN.{length, drop, length-drop}
use Rattle.scan.specs.Bytes.{bytes}
use Rattle.scan.specs.Number.{read_guard_number}
use Rattle.scan.specs.Name.{read_md5_name}
use Rattle.strings.specs.Encoded.{read_encoded_string, Encoded}
use Rattle.std.specs.Prelude.{Ok, Err, Some, None}
use Rattle.letters.specs.StorageClass.{CONST, VOLATILE}
use Rattle.letters.specs.Classes.{read_calling_conv, read_func_class, read_storage_class, read_qualifier, read_storage_class_for_return, read_func_qualifiers, read_string_width, read_guard_marker}
use Rattle.operators.specs.Operators.{read_operator}
use Rattle.forms.specs.Types.{type_forms, type_letters, type_reference, Reference}
use Rattle.forms.specs.Begins.{parse_forms, symbol_forms, name_forms}
use Rattle.forms.specs.declared.types.TypeForm.{TypeForm}
use Rattle.forms.specs.declared.types.TypeForm.TheVariants as form
use Rattle.forms.specs.declared.types.TypeLetter.{TypeLetter}
use Rattle.forms.specs.declared.types.TypeLetter.TheVariants as letter
use Rattle.forms.specs.declared.begins.ParseForm.{ParseForm}
use Rattle.forms.specs.declared.begins.ParseForm.TheVariants as parse
use Rattle.forms.specs.declared.begins.SymbolForm.{SymbolForm}
use Rattle.forms.specs.declared.begins.SymbolForm.TheVariants as symbol
use Rattle.forms.specs.declared.begins.NameForm.{NameForm}
use Rattle.forms.specs.declared.begins.NameForm.TheVariants as name
use Rattle.grammar.specs.Program.{ret, part, Same}
use Rattle.grammar.specs.Words.{expect, leaf, name_of, type_of}
use Rattle.node.specs.Kind.{Kind, NamePlace, TypePlace, Ptr, Ref, RValueRef, Struct, Union, Class, Enum}
use Rattle.grammar.specs.Grammar.{Tag, Parse, OuterMd5, OuterTemplate, OuterGuard, MdFive, OuterName, SymbolType, NoType, GuardType, Name, Unqualified, Nested, VarType, Func, Dimension, Variadic, NoParams, NoReturn, Reading, place, name', stored, unqualified_name, nested_name, reference_or, var_type, scope_from, scope, list_end, stored_param, new_param, params_from, params, func_params, template_name, plain_name, rtti_type_descriptor, rtti_base_class_descriptor, special_name, unqualified_body, nested_of, nested_body, name_body, pointee, element, nested_array, dimensions, array, func_return_type, func_type, member_classes, member_function_pointer, named, pointing, letter_type, no_letter, plain_type, form_type, var_type_body, chars_is, encoded_string, member_function, symbol_type_of, symbol_type_body, index_and_one, guard_index, parse_of, body}
use Rattle.grammar.specs.Counts.{Node, asks, read_nodes}
use Rattle.grammar.specs.declared.State.{State}
use Rattle.grammar.proofs.Leaves.{guard-number-fits, guard-number-least, md5-fits, md5-least, calling-conv-fits, calling-conv-least, func-class-fits, func-class-least, return-class-fits, string-width-fits, string-width-least, guard-marker-fits, guard-marker-least, operator-fits, operator-least, storage-class-fits, qualifier-fits, func-qualifiers-fits, ReferenceFits, reference-fits, EncodedFits, encoded-fits}
use Rattle.grammar.proofs.Funded.{Promise, Funded, Fund, Pays, pays, capped, ends, fails, looks, chooses, recalls, keeps, stores, on, more, taken, leaves, spanned, classes, numbers, unsigneds, strings, hexes, orders-all, digits, reads, shuts, then}
use Rattle.scan.specs.Limits.{deepest_reading}

-- A part needs nothing and gives one, for the node or the place that refers to it. Five earn less than that:
-- no type, and the symbol's own at its end, take no byte; the symbols of `??@` and `?$` count one node more than their names, and a template's `@` pays for two.
-- They live on what stands before them: `?`, `??@`, `?$`, the `@` of the scope
abbrev pub promise : Tag → Promise
promise Parse = record { need = 0; gives = 1 }
promise OuterMd5 = record { need = 0; gives = 0 }
promise OuterTemplate = record { need = 1; gives = 0 }
promise OuterGuard = record { need = 0; gives = 1 }
promise MdFive = record { need = 0; gives = 1 }
promise OuterName = record { need = 1; gives = 1 }
promise SymbolType = record { need = 1; gives = 0 }
promise NoType = record { need = 1; gives = 0 }
promise (GuardType n) = record { need = 0; gives = 1 }
promise (Name function) = record { need = 0; gives = 1 }
promise (Unqualified function) = record { need = 0; gives = 1 }
promise Nested = record { need = 0; gives = 1 }
promise (VarType sc) = record { need = 0; gives = 1 }
promise Func = record { need = 0; gives = 1 }
promise (Dimension n) = record { need = 0; gives = 1 }
promise Variadic = record { need = 0; gives = 1 }
promise NoParams = record { need = 0; gives = 1 }
promise NoReturn = record { need = 0; gives = 1 }

module _ (s : List ℕ) where
  abbrev pub Earns : {A : Type 0} → ℕ → ℕ → Reading A → Type 0
  Earns c g p = Fund s promise c g p

  -- less credit beforehand, and more afterwards, is proved already
  less : {A : Type 0} {p : Reading A} {c g c' g' : ℕ} → Earns c g p → (c ≤ c') × (g' ≤ g) → Earns c' g' p
  less {c = c} {g = g} f h = more c g h.0 h.1 f

  -- the words that the productions share
  opens : (tag : Tag) {c g : ℕ} → ((promise tag).need ≤ c) × (g ≤ c - (promise tag).need + (promise tag).gives) → Earns c g (part tag ret)
  opens tag h = reads {tag = tag} h.0 h.1

  expects : {c g : ℕ} (b : String) → g ≤ c + 2 * length (bytes b) → Earns c g (expect b)
  expects b l = on b (ends l) fails

  conventions : {c g : ℕ} → g ≤ c + 2 → Earns c g (leaf read_calling_conv)
  conventions l = taken read_calling_conv 1 calling-conv-fits calling-conv-least l

  name-refs : (i : ℕ) {c g : ℕ} → g ≤ c → Earns c g (name_of i)
  name-refs i l = recalls (λ m. chooses (ends l) fails)

  pub type-refs : (i : ℕ) {c g : ℕ} → g ≤ c → Earns c g (type_of i)
  type-refs i l = recalls (λ m. chooses (ends l) fails)

  places : (k : Kind) (entry last : ℕ) {c g : ℕ} → g + 1 ≤ c → Earns c g (place k entry last)
  places k entry last {c = c} l = then (c - 1) (shuts (omega arith)) (λ p. ends (omega arith))

  -- names and types, as they are called
  names : (function : Bool) {c g : ℕ} → g ≤ c + 1 → Earns c g (name' function)
  names function {c = c} l = then (c + 1) (opens (Name function) (omega arith)) (λ n. ends l)

  storeds : (i : ℕ) {c g : ℕ} → g ≤ c → Earns c g (stored i)
  storeds i {c = c} l = then c (name-refs i (omega arith)) (λ n. ends l)

  unqualifieds : (function : Bool) {c g : ℕ} → g ≤ c + 1 → Earns c g (unqualified_name function)
  unqualifieds function l = digits stored (λ i. storeds i (omega arith)) (opens (Unqualified function) (omega arith))

  pub nesteds : {c g : ℕ} → g ≤ c + 1 → Earns c g nested_name
  nesteds l = digits name_of (λ i. name-refs i (omega arith)) (opens Nested (omega arith))

  module _ (c g : ℕ) (l : g ≤ c + 1) where
    reference-earns : (x : Reference) (sc at : ℕ) → at ≤ length s → ReferenceFits (length (drop at s)) x → Funded s promise at c g (reference_or x (part (VarType sc) ret))
    reference-earns (Some (d, n)) sc at i h = (omega (arith, length-drop at s), (λ m. ((λ e. omega arith), (λ e. tt))))
    reference-earns None sc at i h = (omega arith, (λ a at' i'. omega arith))

  pub var_types : (sc : ℕ) {c g : ℕ} → g ≤ c + 1 → Earns c g (var_type sc)
  var_types sc {c} {g} l = record { by = λ at i. reference-earns c g l (type_reference (drop at s)) sc at i (reference-fits (drop at s)) }

  -- the productions
  scope-from-earns : (turns last : ℕ) → Earns 0 2 (scope_from turns last)
  unfolding scope_from
  scope-from-earns zero last = fails
  scope-from-earns (suc turns) last = on "@" (ends (omega arith)) (then 1 (nesteds (omega arith)) (λ n. then 0 (places NamePlace n last (omega arith)) (λ next. scope-from-earns turns next)))

  scope-earns : Earns 0 2 scope
  unfolding scope
  scope-earns = looks (λ at. scope-from-earns (length s - at + 1) 0)

  list-end-earns : (last : ℕ) → Earns 2 2 (list_end last)
  unfolding list_end
  list-end-earns last =
      looks (λ at. chooses (then 3 (opens Variadic (omega arith)) (λ t. places TypePlace t last (omega arith)))
      (looks (λ at. chooses (ends (omega arith)) (then 2 (expects "@" (omega arith)) (λ u. ends (omega arith))))))

  stored-param-earns : (last i : ℕ) → Earns 4 2 (stored_param last i)
  unfolding stored_param
  stored-param-earns last i = then 4 (type-refs i (omega arith)) (λ t. places TypePlace t last (omega arith))

  new-param-earns : (last : ℕ) → Earns 2 2 (new_param last)
  unfolding new_param
  new-param-earns last =
      then 2 (looks (λ at. ends (omega arith)))
      (λ from. then 3 (var_types 0 (omega arith))
      (λ t. then 3 (looks (λ at. ends (omega arith)))
      (λ end. then 3 (chooses (stores (ends (omega arith))) (ends (omega arith)))
      (λ u. places TypePlace t last (omega arith)))))

  params-from-earns : (turns last : ℕ) → Earns 2 2 (params_from turns last)
  unfolding params_from
  params-from-earns zero last = fails
  params-from-earns (suc turns) last =
      looks (λ at. chooses (list-end-earns last)
      (looks (λ at. chooses (list-end-earns last)
      (looks (λ at. chooses (list-end-earns last)
      (then 2 (digits (stored_param last) (stored-param-earns last) (new-param-earns last)) (λ next. params-from-earns turns next)))))))

  params-earns : Earns 2 2 params
  unfolding params
  params-earns = looks (λ at. params-from-earns (length s - at + 1) 0)

  func-params-earns : Earns 2 2 func_params
  unfolding func_params
  func-params-earns =
      then 2 (looks (λ at. chooses (then 3 (opens NoParams (omega arith)) (λ t. places TypePlace t 0 (omega arith))) params-earns))
      (λ l. then 2 (expects "Z" (omega arith)) (λ u. ends (omega arith)))

  template-name-earns : Earns 1 1 template_name
  unfolding template_name
  template-name-earns =
      then 1 (recalls (λ m. ends (omega arith)))
      (λ saved. then 1 (keeps (ends (omega arith)))
      (λ u. then 2 (unqualifieds false (omega arith))
      (λ n. then 2 params-earns
      (λ l. then 2 (keeps (ends (omega arith)))
      (λ u. shuts (omega arith))))))

  plain-name-earns : Earns 0 1 plain_name
  unfolding plain_name
  plain-name-earns =
      then 0 (looks (λ at. ends (omega arith)))
      (λ from. then 2 (strings (omega arith))
      (λ taken. then 1 (shuts (omega arith))
      (λ n. then 1 (stores (ends (omega arith)))
      (λ u. ends (omega arith)))))

  rtti-type-descriptor-earns : Earns 0 1 rtti_type_descriptor
  unfolding rtti_type_descriptor
  rtti-type-descriptor-earns =
      then 2 (expects "?" (omega arith))
      (λ u. then 2 (classes read_storage_class storage-class-fits (omega arith))
      (λ sc. then 2 (var_types sc (omega arith))
      (λ t. shuts (omega arith))))

  rtti-base-class-descriptor-earns : Earns 0 1 rtti_base_class_descriptor
  unfolding rtti_base_class_descriptor
  rtti-base-class-descriptor-earns =
      then 2 (numbers (omega arith))
      (λ a. then 2 (numbers (omega arith))
      (λ b. then 2 (numbers (omega arith))
      (λ d. then 2 (numbers (omega arith))
      (λ e. shuts (omega arith)))))

  special-name-earns : Earns 0 1 special_name
  unfolding special_name
  special-name-earns =
      then 2 (taken read_operator 1 operator-fits operator-least (omega arith))
      (λ operator. then 1 (chooses (less rtti-type-descriptor-earns (omega arith)) (chooses (less rtti-base-class-descriptor-earns (omega arith)) (shuts (omega arith))))
      (λ n. ends (omega arith)))

  unqualified-earns : (function : Bool) → Earns 0 1 (unqualified_body function)
  unfolding unqualified_body
  unqualified-earns function =
      on "?$" (then 1 (less template-name-earns (omega arith)) (λ n. then 1 (chooses (ends (omega arith)) (stores (ends (omega arith)))) (λ u. ends (omega arith))))
      (on "?" (less special-name-earns (omega arith))
      (then 1 plain-name-earns (λ n. ends (omega arith))))

  nested-of-earns : (x : NameForm) → Earns 2 1 (nested_of x)
  unfolding nested_of
  nested-of-earns (name.Stored i) = name-refs i (omega arith)
  nested-of-earns name.Parsed = fails
  nested-of-earns name.Template = then 1 (less template-name-earns (omega arith)) (λ n. then 1 (stores (ends (omega arith))) (λ u. ends (omega arith)))
  nested-of-earns name.AnonymousId =
      then 2 (looks (λ at. ends (omega arith)))
      (λ from. then 2 (hexes (omega arith))
      (λ digits. then 2 (chooses fails (ends (omega arith)))
      (λ u. then 2 (expects "@" (omega arith))
      (λ u. then 1 (shuts (omega arith))
      (λ n. then 1 (stores (ends (omega arith)))
      (λ u. ends (omega arith)))))))
  nested-of-earns name.Anonymous = then 2 (expects "@" (omega arith)) (λ u. shuts (omega arith))
  nested-of-earns name.Interface =
      then 2 (looks (λ at. ends (omega arith)))
      (λ from. then 2 (strings (omega arith))
      (λ taken. then 2 (expects "@" (omega arith))
      (λ u. then 1 (shuts (omega arith))
      (λ n. then 1 (stores (ends (omega arith)))
      (λ u. ends (omega arith))))))
  nested-of-earns name.Discriminator = then 2 (numbers (omega arith)) (λ d. shuts (omega arith))
  nested-of-earns name.Plain = less plain-name-earns (omega arith)

  nested-earns : Earns 0 1 nested_body
  unfolding nested_body
  nested-earns =
      looks (λ at. chooses (then 2 (expects "?" (omega arith)) (λ u. then 2 (opens Parse (omega arith)) (λ p. shuts (omega arith))))
      (orders-all 1 name_forms nested_of refl nested-of-earns plain-name-earns))

  name-earns : (function : Bool) → Earns 0 1 (name_body function)
  unfolding name_body
  name-earns function = then 0 (unqualifieds function (omega arith)) (λ n. then 2 scope-earns (λ l. then 1 (shuts (omega arith)) (λ s. ends (omega arith))))

  pointee-earns : Earns 1 2 pointee
  unfolding pointee
  pointee-earns =
      then 1 (then 1 (on "E" (ends (omega arith)) (ends (omega arith)))
      (λ ptr64. then 1 (classes read_storage_class storage-class-fits (omega arith))
      (λ sc. ends (omega arith))))
      (λ sc. var_types sc (omega arith))

  element-earns : Earns 1 2 element
  unfolding element
  element-earns =
      then 1 (on "$$C" (on "B" (ends (omega arith)) (on "C" (ends (omega arith)) (on "D" (ends (omega arith)) (on "A" (ends (omega arith)) fails)))) (ends (omega arith)))
      (λ sc. then 2 (var_types 0 (omega arith))
      (λ t. ends (omega arith)))

  nested-array-earns : (dimension : ℕ) → Earns 1 2 (nested_array dimension)
  nested-array-earns zero = element-earns
  nested-array-earns (suc dimension) = opens (Dimension (suc dimension)) (omega arith)

  dimensions-earns : (dimension : ℕ) → Earns 0 1 (dimensions dimension)
  unfolding dimensions
  dimensions-earns dimension =
      then 1 (numbers (omega arith))
      (λ len. then 2 (nested-array-earns (dimension - 1))
      (λ inner. then 1 (shuts (omega arith))
      (λ n. ends (omega arith))))

  array-earns : Earns 0 1 array
  unfolding array
  array-earns =
      then 0 (numbers (omega arith))
      (λ dimension. then 0 (chooses fails (ends (omega arith)))
      (λ u. then 1 (dimensions-earns dimension)
      (λ a. ends (omega arith))))

  func-return-type-earns : (sc : ℕ) {c g : ℕ} → g ≤ c + 1 → Earns c g (func_return_type sc)
  unfolding func_return_type
  func-return-type-earns sc l = looks (λ at. chooses (opens NoReturn (omega arith)) (var_types sc l))

  func-type-earns : (read_qualifiers : Bool) → Earns 0 1 (func_type read_qualifiers)
  unfolding func_type
  func-type-earns read_qualifiers =
      then 0 (chooses (classes read_func_qualifiers func-qualifiers-fits (omega arith)) (ends (omega arith)))
      (λ sc. then 2 (conventions (omega arith))
      (λ conv. then 2 (on "?" (classes read_storage_class storage-class-fits (omega arith)) (ends (omega arith)))
      (λ var_sc. then 2 (var_types var_sc (omega arith))
      (λ t. then 2 func-params-earns
      (λ l. shuts (omega arith))))))

  member-classes-earns : (read_qualifiers : Bool) (ptr64 : ℕ) {c g : ℕ} → g ≤ c → Earns c g (member_classes read_qualifiers ptr64)
  unfolding member_classes
  member-classes-earns true ptr64 {c = c} l = then c (classes read_qualifier qualifier-fits (omega arith)) (λ q. ends l)
  member-classes-earns false ptr64 {c = c} l = then c (taken read_func_class 1 func-class-fits func-class-least (omega arith)) (λ func_class. ends l)

  member-function-pointer-earns : (read_qualifiers : Bool) → Earns 0 1 (member_function_pointer read_qualifiers)
  unfolding member_function_pointer
  member-function-pointer-earns read_qualifiers =
      then 0 (names true (omega arith))
      (λ s. then 0 (on "E" (ends (omega arith)) (ends (omega arith)))
      (λ ptr64. then 0 (member-classes-earns read_qualifiers ptr64 (omega arith))
      (λ classes. then 2 (conventions (omega arith))
      (λ conv. then 2 (leaves read_storage_class_for_return return-class-fits (omega arith))
      (λ return_sc. then 2 (func-return-type-earns return_sc (omega arith))
      (λ t. then 2 func-params-earns
      (λ l. shuts (omega arith))))))))

  named-earns : (k : Kind) (sc : ℕ) → Earns 2 1 (named k sc)
  named-earns k sc = then 2 (names false (omega arith)) (λ n. shuts (omega arith))

  pointing-earns : (k : Kind) (sc : ℕ) → Earns 2 1 (pointing k sc)
  pointing-earns k sc = then 2 (less pointee-earns (omega arith)) (λ t. shuts (omega arith))

  letter-type-earns : (sc : ℕ) (x : TypeLetter) → Earns 2 1 (letter_type sc x)
  unfolding letter_type
  letter-type-earns sc letter.Parameter = then 2 (numbers (omega arith)) (λ n. shuts (omega arith))
  letter-type-earns sc letter.Union = named-earns Union sc
  letter-type-earns sc letter.Struct = named-earns Struct sc
  letter-type-earns sc letter.Class = named-earns Class sc
  letter-type-earns sc letter.Ref = pointing-earns Ref sc
  letter-type-earns sc letter.VolatileRef = pointing-earns Ref VOLATILE
  letter-type-earns sc letter.Ptr = pointing-earns Ptr sc
  letter-type-earns sc letter.ConstPtr = pointing-earns Ptr CONST
  letter-type-earns sc letter.VolatilePtr = pointing-earns Ptr VOLATILE
  letter-type-earns sc letter.ConstVolatilePtr = pointing-earns Ptr (CONST + VOLATILE)
  letter-type-earns sc letter.Array = less array-earns (omega arith)
  letter-type-earns sc (letter.Basic k) = shuts (omega arith)

  no-letter-earns : {c g : ℕ} → Earns c g no_letter
  no-letter-earns = record { by = λ at i. (omega (arith, length-drop at s), tt) }

  plain-type-earns : (sc : ℕ) → Earns 0 1 (plain_type sc)
  unfolding plain_type
  plain-type-earns sc = orders-all 1 type_letters (letter_type sc) refl (letter-type-earns sc) no-letter-earns

  form-type-earns : (sc : ℕ) (x : TypeForm) → Earns 2 1 (form_type sc x)
  unfolding form_type
  form-type-earns sc form.Enum = named-earns Enum sc
  form-type-earns sc form.FunctionRef = then 2 (opens Func (omega arith)) (λ f. shuts (omega arith))
  form-type-earns sc form.FunctionPtr = then 2 (opens Func (omega arith)) (λ f. shuts (omega arith))
  form-type-earns sc form.MemberFunctionPtr = less (member-function-pointer-earns true) (omega arith)
  form-type-earns sc form.Constant = then 2 (numbers (omega arith)) (λ n. shuts (omega arith))
  form-type-earns sc form.TemplateParameter = then 2 (numbers (omega arith)) (λ n. shuts (omega arith))
  form-type-earns sc form.Array = less array-earns (omega arith)
  form-type-earns sc form.RValueRef = pointing-earns RValueRef sc
  form-type-earns sc form.EmptyPack = shuts (omega arith)
  form-type-earns sc form.Nullptr = shuts (omega arith)
  form-type-earns sc form.Function = less (func-type-earns false) (omega arith)
  form-type-earns sc form.QualifiedFunction = less (func-type-earns true) (omega arith)
  form-type-earns sc form.Alias = then 2 (names true (omega arith)) (λ n. shuts (omega arith))
  form-type-earns sc form.Reclassed = then 0 (classes read_qualifier qualifier-fits (omega arith)) (λ q. plain-type-earns q)
  form-type-earns sc form.MemberPointer = then 0 (expects "?" (omega arith)) (λ u. member-function-pointer-earns false)
  form-type-earns sc form.Plain = less (plain-type-earns sc) (omega arith)

  var-type-earns : (sc : ℕ) → Earns 0 1 (var_type_body sc)
  unfolding var_type_body
  var-type-earns sc = orders-all 1 type_forms (form_type sc) refl (form-type-earns sc) (plain-type-earns sc)

  chars-earns : (x : Encoded) (at : ℕ) → at ≤ length s → EncodedFits (length (drop at s)) x → Funded s promise at 0 1 (chars_is at x)
  chars-earns (Ok c) at i h = (omega (arith, length-drop at s), (omega arith, (λ m at' i'. omega arith)))
  chars-earns (Err n) at i h = (omega (arith, length-drop at s), tt)

  encoded-string-earns : (width : ℕ) → Earns 0 1 (encoded_string width)
  unfolding encoded_string
  encoded-string-earns width = record { by = λ at i. chars-earns (read_encoded_string width (drop at s)) at i (encoded-fits width (drop at s)) }

  member-function-earns : Earns 0 1 member_function
  unfolding member_function
  member-function-earns =
      then 0 (taken read_func_class 1 func-class-fits func-class-least (omega arith))
      (λ func_class. then 0 (chooses (ends (omega arith)) (classes read_func_qualifiers func-qualifiers-fits (omega arith)))
      (λ sc. then 2 (conventions (omega arith))
      (λ conv. then 2 (leaves read_storage_class_for_return return-class-fits (omega arith))
      (λ return_sc. then 2 (func-return-type-earns return_sc (omega arith))
      (λ t. then 2 func-params-earns
      (λ l. shuts (omega arith)))))))

  symbol-type-of-earns : (x : SymbolForm) → Earns 2 1 (symbol_type_of x)
  unfolding symbol_type_of
  symbol-type-of-earns (symbol.Variable kind) = then 2 (var_types 0 (omega arith)) (λ t. then 2 (classes read_storage_class storage-class-fits (omega arith)) (λ sc. shuts (omega arith)))
  symbol-type-of-earns symbol.VFTable = then 0 (classes read_qualifier qualifier-fits (omega arith)) (λ sc. then 2 scope-earns (λ l. shuts (omega arith)))
  symbol-type-of-earns symbol.VBTable = then 0 (classes read_qualifier qualifier-fits (omega arith)) (λ sc. then 2 scope-earns (λ l. shuts (omega arith)))
  symbol-type-of-earns symbol.ExternC = shuts (omega arith)
  symbol-type-of-earns symbol.Function =
      then 2 (conventions (omega arith))
      (λ conv. then 2 (leaves read_storage_class_for_return return-class-fits (omega arith))
      (λ return_sc. then 2 (var_types return_sc (omega arith))
      (λ t. then 2 func-params-earns
      (λ l. shuts (omega arith)))))
  symbol-type-of-earns symbol.String = then 0 (taken read_string_width 1 string-width-fits string-width-least (omega arith)) (λ width. encoded-string-earns width)
  symbol-type-of-earns symbol.VCallThunk =
      then 2 (expects "B" (omega arith))
      (λ u. then 2 (numbers (omega arith))
      (λ offset. then 2 (expects "A" (omega arith))
      (λ u. then 2 (conventions (omega arith))
      (λ conv. shuts (omega arith)))))
  symbol-type-of-earns symbol.Rtti = shuts (omega arith)
  symbol-type-of-earns symbol.Member = less member-function-earns (omega arith)
  symbol-type-of-earns symbol.Nothing = shuts (omega arith)

  -- at the end of the symbol its type takes no byte
  symbol-type-earns : Earns 1 0 symbol_type_body
  unfolding symbol_type_body
  symbol-type-earns = orders-all 1 symbol_forms symbol_type_of refl (λ x. less (symbol-type-of-earns x) (omega arith)) (looks (λ at. chooses (shuts (omega arith)) (less member-function-earns (omega arith))))

  index-and-one-earns : {c g : ℕ} → g ≤ c → Earns c g index_and_one
  unfolding index_and_one
  index-and-one-earns {c = c} l = looks (λ at. chooses (ends l) (then c (unsigneds (omega arith)) (λ index. ends l)))

  guard-index-earns : (guard : Bool) {c g : ℕ} → g ≤ c → Earns c g (guard_index guard)
  unfolding guard_index
  guard-index-earns false l = ends l
  guard-index-earns true {c = c} l = then c (taken read_guard_marker 1 guard-marker-fits guard-marker-least (omega arith)) (λ visible. index-and-one-earns l)

  parse-name-earns : Earns 2 1 (parse_of parse.Name)
  unfolding parse_of
  parse-name-earns = then 3 (opens (Name true) (omega arith)) (λ n. then 3 (guard-index-earns n.1 (omega arith)) (λ index. then 2 (opens SymbolType (omega arith)) (λ t. shuts (omega arith))))

  parse-of-earns : (x : ParseForm) → Earns 4 1 (parse_of x)
  unfolding parse_of
  parse-of-earns parse.Md5 = then 4 (opens OuterMd5 (omega arith)) (λ n. then 3 (opens NoType (omega arith)) (λ t. shuts (omega arith)))
  parse-of-earns parse.Guard =
      then 4 (taken read_guard_number 1 guard-number-fits guard-number-least (omega arith))
      (λ n. then 4 (opens OuterGuard (omega arith))
      (λ s. then 4 (opens (GuardType n) (omega arith))
      (λ t. shuts (omega arith))))
  parse-of-earns parse.Template = then 3 (opens OuterTemplate (omega arith)) (λ n. then 2 (opens NoType (omega arith)) (λ t. shuts (omega arith)))
  parse-of-earns parse.Name = less parse-name-earns (omega arith)

  pub funded : (tag : Tag) → Earns (promise tag).need (promise tag).gives (body tag)
  unfolding body
  funded Parse = then 2 (expects "?" (omega arith)) (λ u. orders-all 1 parse_forms parse_of refl parse-of-earns parse-name-earns)
  funded OuterMd5 = then 1 (opens MdFive (omega arith)) (λ n. shuts (omega arith))
  funded MdFive = then 0 (looks (λ at. ends (omega arith))) (λ from. then 2 (spanned read_md5_name 1 md5-fits md5-least (omega arith)) (λ taken. shuts (omega arith)))
  funded OuterTemplate = then 1 (opens OuterName (omega arith)) (λ n. shuts (omega arith))
  funded OuterName = template-name-earns
  funded OuterGuard = then 0 (nesteds (omega arith)) (λ n. then 2 scope-earns (λ l. shuts (omega arith)))
  funded SymbolType = symbol-type-earns
  funded NoType = shuts (omega arith)
  funded (GuardType n) = then 2 (expects "4HA" (omega arith)) (λ u. shuts (omega arith))
  funded (Name function) = name-earns function
  funded (Unqualified function) = unqualified-earns function
  funded Nested = nested-earns
  funded (VarType sc) = var-type-earns sc
  funded Func = func-type-earns false
  funded (Dimension dimension) = dimensions-earns dimension
  funded Variadic = then 2 (expects "Z" (omega arith)) (λ u. shuts (omega arith))
  funded NoParams = then 2 (expects "X" (omega arith)) (λ u. shuts (omega arith))
  funded NoReturn = then 2 (expects "@" (omega arith)) (λ u. shuts (omega arith))

  -- the whole reading, from an empty list of nodes: at most 2C - 1 nodes for C bytes, with an answer
  module _ (same : Same (List Node)) (st : State) (no-at : st.at ≡ 0) (no-used : st.used ≡ 0) where
    pub grammar-pays : Pays s 1 (asks body same s Parse st)
    grammar-pays = pays body same s promise funded Parse st no-at no-used refl

    -- a cap on the nodes of twice the symbol's length or more changes nothing, whatever room is lent
    pub grammar-capped : st.deep ≡ 0 → (limit nodes cap : ℕ) → limit ≤ deepest_reading → 2 * length s ≤ cap → read_nodes body same s limit (min cap nodes) limit Parse st [] ≡ read_nodes body same s limit nodes limit Parse st []
    grammar-capped no-deep limit nodes cap low c = capped body same s promise funded Parse st no-at no-deep no-used refl limit nodes cap low c
