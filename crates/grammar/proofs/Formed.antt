-- What a reading leaves that answers: a well-formed table, whose last node is the root, and the depth is its height.
-- Each proof follows its production's lines, in the order of specs/Grammar.antt, by the rules of Sound.antt. `Ok w r need p Q` is its judgement; r is 1 where p closes the node that it answers with.
--     grammar-formed   the theorem, over a list of nodes
--     table-formed     so it is over a lent table
-- Assumes nothing.
use Prim.Native.Nat.{ℕ, zero, suc, ◌+◌, ◌-◌, ◌*◌, ◌<◌, ◌≤◌, max}
use Prim.Native.String.{String}
use mathlib.Core.Path.{◌≡◌, refl, sym, ap, ap₂, subst, ◌∙◌}
use mathlib.Core.List.{List, [], ◌∷◌, ◌++◌, append-nil}
use mathlib.Core.Bool.{Bool, true, false}
use native.Mathlib.Omega.{arith}
use lib.ListN.{length, get_or, take, drop, replicate, length-drop, get_or-replicate}
use lib.Seq.{get_or-take, get_or-drop}
use lib.Dec.{leb}
use borrow.Author.Tests.{leb-true, lt-leb, ne_eqb, eqb-false}
use Rattle.scan.specs.Bytes.{bytes}
use Rattle.scan.specs.Number.{read_number, read_unsigned, read_guard_number}
use Rattle.scan.specs.Name.{read_string, read_hex_digits, read_md5_name}
use Rattle.scan.proofs.Fits.{number_fits}
use Rattle.strings.specs.Encoded.{read_encoded_string, Encoded}
use Rattle.std.specs.Prelude.{Some, None}
use Rattle.std.specs.Prelude as std
use Rattle.letters.specs.StorageClass.{CONST, VOLATILE, PTR64}
use Rattle.letters.specs.Classes.{read_calling_conv, read_func_class, read_storage_class, read_qualifier, read_storage_class_for_return, read_func_qualifiers, read_string_width, read_guard_marker}
use Rattle.operators.specs.Operators.{read_operator}
use Rattle.forms.specs.Types.{type_forms, type_letters, type_reference, Reference}
use Rattle.forms.specs.Begins.{parse_forms, symbol_forms, name_forms}
use Rattle.forms.specs.declared.types.TypeForm.{TypeForm}
use Rattle.forms.specs.declared.types.TypeForm.TheVariants as form
use Rattle.forms.specs.declared.types.TypeLetter.{TypeLetter}
use Rattle.forms.specs.declared.types.TypeLetter.TheVariants as letter
use Rattle.forms.specs.declared.begins.ParseForm.{ParseForm}
use Rattle.forms.specs.declared.begins.ParseForm.TheVariants as parse
use Rattle.forms.specs.declared.begins.SymbolForm.{SymbolForm}
use Rattle.forms.specs.declared.begins.SymbolForm.TheVariants as symbol
use Rattle.forms.specs.declared.begins.NameForm.{NameForm}
use Rattle.forms.specs.declared.begins.NameForm.TheVariants as name
use Rattle.form.specs.Kinds as kind
use Rattle.node.specs.Cells.{nodes, cell_of, height_at, KIND, Q}
use Rattle.form.specs.Form.{well_formed}
use Rattle.grammar.specs.Program.{ret, part, Reply, found, Out, out, Same}
use Rattle.grammar.specs.Words.{◌⇒◌∥◌, expect, leaf, class, name_of}
use Rattle.node.specs.Kind.{Kind, NamePlace, TypePlace, Ptr, Ref, RValueRef, Struct, Union, Class, Enum, Basic, kind_number, ParseResult, AnonymousId, Anonymous}
use Rattle.grammar.specs.Grammar.{Tag, Parse, OuterMd5, OuterTemplate, OuterGuard, MdFive, OuterName, SymbolType, NoType, GuardType, Name, Unqualified, Nested, VarType, Func, Dimension, Variadic, NoParams, NoReturn, Ans, Reading, close, empty_memo, place, name', stored, unqualified_name, nested_name, reference_or, var_type, scope_from, scope, list_end, stored_param, new_param, params_from, params, func_params, template_name, plain_name, rtti_type_descriptor, rtti_base_class_descriptor, special_name, unqualified_body, nested_of, nested_body, name_body, pointee, element, nested_array, dimensions, array, func_return_type, func_type, member_classes, member_function_pointer, named, pointing, letter_type, no_letter, plain_type, form_type, var_type_body, chars_is, encoded_string, member_function, symbol_type_of, symbol_type_body, index_and_one, guard_index, parsed, parse_of, body}
use Rattle.grammar.specs.Counts.{Node, height_of, rises, read_nodes}
use Rattle.grammar.specs.Table.{cells_of, same_nodes, read_table}
use Rattle.grammar.specs.declared.State.{State}
use Rattle.grammar.proofs.Leaves.{unsigned-fits, string-fits, string-least, hex-fits, guard-number-fits, md5-fits, md5-least, calling-conv-fits, func-class-fits, return-class-fits, string-width-fits, guard-marker-fits, operator-fits, storage-class-fits, qualifier-fits, func-qualifiers-fits, ReferenceFits, reference-fits, EncodedFits, encoded-fits}
use Rattle.grammar.proofs.Table.{Holds, Agree, reads-agree}
use Rattle.grammar.proofs.Bounds.{number-below, unsigned-below, guard-number-below, calling-conv-below, func-class-below, operator-below, return-class-below, storage-class-bound, qualifier-bound, func-qualifiers-bound}
use Rattle.grammar.proofs.Rows.{kind_at, Known, known-none, row_of, wider, empty, ref, is_id, cell-kind, height-cells, well-formed, ids-long, never-idless}
use Rattle.grammar.proofs.Calm.{Calm, is, refuses, either, unless, seen, if, next, valued, leaves, spanned, classed, counted}
use Rattle.grammar.proofs.Sound.{World, world, Stored, Good, Post, Ended, Ends, Setting, Sound, since, still, NodeIs, LastIs, ListIs, ends, fails, looks, chooses, then, through, opens, skips, inside, says, widens, reads, heres, remembers, replaces, on, digits, orders, shuts-last, shuts-by, shuts, name-refs, name-refs-here, no_names, type-refs, stores, stores-if, stores-unless, reads-sound}
use Rattle.scan.specs.Limits.{Short}

-- classes that stand together: a name of a scope, a type, a list of names or of types, and a return, which may be none
abbrev in_scope : ℕ
in_scope = kind.plain + kind.scoped + kind.nested

abbrev a_type : ℕ
a_type = kind.var_type + kind.function

abbrev name_list : ℕ
name_list = kind.nothing + kind.names

abbrev type_list : ℕ
type_list = kind.nothing + kind.types

abbrev a_return : ℕ
a_return = kind.var_type + kind.function + kind.no_type

abbrev outer_types : ℕ
outer_types = kind.no_type + kind.outer_type + kind.function

-- what a part asks for: classes and numbers that fit where they will stand
abbrev Asks : Tag → Type 0
Asks Parse = Unit {0}
Asks OuterMd5 = Unit {0}
Asks OuterTemplate = Unit {0}
Asks OuterGuard = Unit {0}
Asks MdFive = Unit {0}
Asks OuterName = Unit {0}
Asks SymbolType = Unit {0}
Asks NoType = Unit {0}
Asks (GuardType n) = n ≤ kind.any
Asks (Name function) = Unit {0}
Asks (Unqualified function) = Unit {0}
Asks Nested = Unit {0}
Asks (VarType sc) = sc ≤ kind.class_most
Asks Func = Unit {0}
Asks (Dimension n) = Unit {0}
Asks Variadic = Unit {0}
Asks NoParams = Unit {0}
Asks NoReturn = Unit {0}

-- what it answers with. A template's name is read where nothing is stored, so an unqualified name is apart from the stored ones; the root is the last node, a ParseResult
abbrev Gives : (tag : Tag) → Post (Ans tag)
Gives Parse = LastIs kind.parsed 3
Gives OuterMd5 = NodeIs kind.outer
Gives OuterTemplate = NodeIs kind.symbol
Gives OuterGuard = NodeIs kind.outer
Gives MdFive = NodeIs kind.md5
Gives OuterName = NodeIs kind.plain
Gives SymbolType = NodeIs outer_types
Gives NoType = NodeIs kind.no_type
Gives (GuardType n) = NodeIs kind.outer_type
Gives (Name function) = λ a h w. NodeIs kind.symbol a.0 h w
Gives (Unqualified function) = λ a h w. NodeIs (kind.plain + kind.operator) a.0 h w
Gives Nested = NodeIs in_scope
Gives (VarType sc) = NodeIs a_type
Gives Func = NodeIs kind.function
Gives (Dimension n) = λ a h w. NodeIs kind.var_type a.0 h w × (a.1 ≤ kind.class_most)
Gives Variadic = NodeIs kind.var_args
Gives NoParams = NodeIs kind.var_type
Gives NoReturn = NodeIs kind.no_type

-- a new memo
none-stored : (ns : List Node) → Stored ns empty_memo
none-stored ns = record { ten-names = refl; ten-types = refl; name = λ i l. absurd (omega arith); tall = λ i l. absurd (omega arith); type = λ i l. absurd (omega arith) }

module _ (x : Setting Asks Gives) (short : length x.symbol ≤ kind.any) where
  abbrev Ok : {A : Type 0} → World → ℕ → ℕ → Reading A → Post A → Type 0
  Ok w r need p Q = Sound x w r need p Q

  -- the words that the productions share
  expects : {at : ℕ} (b : String) → Calm {Ans = Ans} x.symbol at (λ u at'. at + length (bytes b) ≡ at') (expect b)
  expects b = if b (is refl) refuses

  numbers : {at : ℕ} → Calm {Ans = Ans} x.symbol at (λ v at'. v ≤ kind.any) (leaf read_number)
  numbers = valued read_number kind.any number_fits number-below

  conventions : {at : ℕ} → Calm {Ans = Ans} x.symbol at (λ v at'. v ≤ kind.convention_most) (leaf read_calling_conv)
  conventions = valued read_calling_conv kind.convention_most calling-conv-fits calling-conv-below

  -- storage classes, with room for PTR64
  storages : {at : ℕ} → Calm {Ans = Ans} x.symbol at (λ v at'. v ≤ 447) (class read_storage_class)
  storages = classed read_storage_class 447 storage-class-fits (λ r. omega (arith, storage-class-bound r))

  qualifiers : {at : ℕ} → Calm {Ans = Ans} x.symbol at (λ v at'. v ≤ 447) (class read_qualifier)
  qualifiers = classed read_qualifier 447 qualifier-fits (λ r. omega (arith, qualifier-bound r))

  func-qualifiers : {at : ℕ} → Calm {Ans = Ans} x.symbol at (λ v at'. v ≤ kind.class_most) (class read_func_qualifiers)
  func-qualifiers = classed read_func_qualifiers kind.class_most func-qualifiers-fits func-qualifiers-bound

  return-classes : {at : ℕ} → Calm {Ans = Ans} x.symbol at (λ v at'. v ≤ kind.class_most) (leaf read_storage_class_for_return)
  return-classes = valued read_storage_class_for_return kind.class_most return-class-fits return-class-below

  func-classes : {at : ℕ} → Calm {Ans = Ans} x.symbol at (λ v at'. v ≤ kind.func_class_most) (leaf read_func_class)
  func-classes = valued read_func_class kind.func_class_most func-class-fits func-class-below

  ptr64 : {at : ℕ} → Calm {Ans = Ans} x.symbol at (λ v at'. v ≤ PTR64) ("E" ⇒ ret PTR64 ∥ ret 0)
  ptr64 = if "E" (is (omega arith)) (is (omega arith))

  -- an entry behind a list
  name-places : {w : World} {need last h t : ℕ} (entry : ℕ) → Known name_list w.nodes last t → Known in_scope w.nodes (entry + 1) h → need ≤ max t h → Ok w 0 need (place NamePlace entry last) (ListIs name_list)
  name-places entry l e n = through (shuts refl (ref l refl (ref e refl (empty refl))) (omega arith)) (λ p. ends p.height p.holds (omega arith))

  type-places : {w : World} {need last h t : ℕ} (entry : ℕ) → Known type_list w.nodes last t → Known (kind.var_type + kind.function + kind.var_args) w.nodes (entry + 1) h → need ≤ max t h → Ok w 0 need (place TypePlace entry last) (ListIs type_list)
  type-places entry l e n = through (shuts refl (ref l refl (ref e refl (empty refl))) (omega arith)) (λ p. ends p.height p.holds (omega arith))

  -- names and types, as they are called
  names : {w : World} (function : Bool) → Ok w 0 0 (name' function) (NodeIs kind.symbol)
  names function = then (opens (Name function) tt) (λ n. ends n.height n.holds (omega arith))

  unqualifieds : {w : World} (function : Bool) → Ok w 0 0 (unqualified_name function) (λ a. NodeIs (kind.plain + kind.scoped + kind.operator) a.0)
  unqualifieds function =
      digits stored (λ i. then (name-refs i) (λ n. ends n.height (wider _ n.holds refl) (omega arith)))
      (says (opens (Unqualified function) tt) (λ a h w k. wider _ k refl))

  -- the name of a template: where nothing is stored yet
  first-names : {w : World} → w.state.memo.names_len ≡ 0 → Ok w 0 0 (unqualified_name false) (λ a. NodeIs (kind.plain + kind.operator) a.0)
  first-names z = digits stored (λ i. then (no_names i z) (λ n. ends n.height (wider _ n.holds refl) (omega arith))) (opens (Unqualified false) tt)

  nesteds : {w : World} → Ok w 0 0 nested_name (NodeIs in_scope)
  nesteds = digits name_of (λ i. widens in_scope (name-refs i) refl) (opens Nested tt)

  reference-ok : {w : World} (y : Reference) (sc : ℕ) → sc ≤ kind.class_most → w.state.at ≤ length x.symbol → ReferenceFits (length (drop w.state.at x.symbol)) y → Ok w 0 0 (reference_or y (part (VarType sc) ret)) (NodeIs a_type)
  reference-ok {w} (Some (d, n)) sc l i h = skips (omega (arith, length-drop w.state.at x.symbol)) (type-refs d)
  reference-ok None sc l i h = opens (VarType sc) l

  var_types : {w : World} (sc : ℕ) → sc ≤ kind.class_most → Ok w 0 0 (var_type sc) (NodeIs a_type)
  var_types {w} sc l = inside (λ i. looks (reference-ok (type_reference (drop w.state.at x.symbol)) sc l i (reference-fits (drop w.state.at x.symbol))))

  -- the productions
  scope-from-ok : {w : World} {h : ℕ} (turns last : ℕ) → Known name_list w.nodes last h → Ok w 0 h (scope_from turns last) (ListIs name_list)
  unfolding scope_from
  scope-from-ok zero last k = fails
  scope-from-ok {w = w} {h = h} (suc turns) last k = on "@" (ends h k (omega arith)) (then nesteds (λ n. through (name-places n.value (since n k) n.holds (omega arith)) (λ next. scope-from-ok {w = next.world} turns next.value next.holds)))

  scope-ok : {w : World} → Ok w 0 0 scope (ListIs name_list)
  unfolding scope
  scope-ok {w} = looks (scope-from-ok _ 0 (known-none w.nodes refl))

  list-end-ok : {w : World} {h : ℕ} (last : ℕ) → Known type_list w.nodes last h → Ok w 0 h (list_end last) (ListIs type_list)
  unfolding list_end
  list-end-ok {h = h} last k =
      looks (chooses (λ e. then (opens Variadic tt) (λ t. type-places t.value (since t k) (wider _ t.holds refl) (omega arith)))
      (λ e. looks (chooses (λ e. ends h k (omega arith)) (λ e. reads (expects "@") (λ u. ends h k (omega arith))))))

  stored-param-ok : {w : World} {h : ℕ} (last i : ℕ) → Known type_list w.nodes last h → Ok w 0 h (stored_param last i) (ListIs type_list)
  unfolding stored_param
  stored-param-ok last i k = then (type-refs i) (λ t. type-places t.value (since t k) (wider _ t.holds refl) (omega arith))

  new-param-ok : {w : World} {h : ℕ} (last : ℕ) → Known type_list w.nodes last h → Ok w 0 h (new_param last) (ListIs type_list)
  unfolding new_param
  new-param-ok last k =
      heres (then (var_types 0 (omega arith))
      (λ t. heres (stores-if _ t.holds (λ m. type-places t.value (since t k) (wider _ t.holds refl) (omega arith)))))

  params-from-ok : {w : World} {h : ℕ} (turns last : ℕ) → Known type_list w.nodes last h → Ok w 0 h (params_from turns last) (ListIs type_list)
  unfolding params_from
  params-from-ok zero last k = fails
  params-from-ok (suc turns) last k =
      looks (chooses (λ e. list-end-ok last k)
      (λ e. looks (chooses (λ e. list-end-ok last k)
      (λ e. looks (chooses (λ e. list-end-ok last k)
      (λ e. through (digits (stored_param last) (λ i. stored-param-ok last i k) (new-param-ok last k)) (λ next. params-from-ok turns next.value next.holds)))))))

  params_ok : {w : World} → Ok w 0 0 params (ListIs type_list)
  unfolding params
  params_ok {w} = looks (params-from-ok _ 0 (known-none w.nodes refl))

  func-params-ok : {w : World} → Ok w 0 0 func_params (ListIs type_list)
  unfolding func_params
  func-params-ok =
      then (looks (chooses (λ e. then (opens NoParams tt) (λ t. type-places t.value (known-none t.world.nodes refl) (wider _ t.holds refl) (omega arith))) (λ e. params_ok)))
      (λ l. reads (expects "Z") (λ u. ends l.height l.holds (omega arith)))

  template-name-ok : {w : World} → Ok w 1 0 template_name (NodeIs kind.plain)
  unfolding template_name
  template-name-ok {w} =
      remembers (λ saved. replaces (none-stored w.nodes)
      (then (first-names refl)
      (λ n. then params_ok
      (λ l. replaces (still l (still n saved)) (shuts refl (ref (since l n.holds) refl (ref l.holds refl (empty refl))) (omega arith))))))

  plain-name-ok : {w : World} → Ok w 1 0 plain_name (NodeIs kind.plain)
  unfolding plain_name
  plain-name-ok {w} =
      heres (reads (spanned read_string string-fits string-least)
      (λ taken. through (shuts refl (empty refl) (omega (arith, taken.inside, taken.holds)))
      (λ n. stores (wider _ n.holds refl) (λ m. ends n.height n.holds (omega arith)))))

  rtti-type-descriptor-ok : {w : World} → Ok w 1 0 rtti_type_descriptor (NodeIs kind.operator)
  unfolding rtti_type_descriptor
  rtti-type-descriptor-ok =
      reads (expects "?")
      (λ u. reads storages
      (λ sc. then (var_types sc.value (omega (arith, sc.holds)))
      (λ t. shuts refl (ref t.holds refl (empty refl)) (omega (arith, sc.holds)))))

  rtti-base-class-descriptor-ok : {w : World} → Ok w 1 0 rtti_base_class_descriptor (NodeIs kind.operator)
  unfolding rtti_base_class_descriptor
  rtti-base-class-descriptor-ok =
      reads numbers
      (λ a. reads numbers
      (λ b. reads numbers
      (λ c. reads numbers
      (λ d. shuts refl (empty refl) (omega (arith, a.holds, b.holds, c.holds, d.holds))))))

  special-name-ok : {w : World} → Ok w 1 0 special_name (λ a. NodeIs kind.operator a.0)
  unfolding special_name
  special-name-ok =
      reads (valued read_operator 76 operator-fits operator-below)
      (λ operator. through
      (chooses (λ e. rtti-type-descriptor-ok)
      (λ e. chooses (λ f. rtti-base-class-descriptor-ok) (λ f. shuts refl (empty refl) (omega (arith, operator.holds, eqb-false operator.value 75 e, eqb-false operator.value 76 f)))))
      (λ n. ends n.height n.holds (omega arith)))

  unqualified-ok : {w : World} (function : Bool) → Ok w 1 0 (unqualified_body function) (Gives (Unqualified function))
  unfolding unqualified_body
  unqualified-ok function =
      on "?$" (through template-name-ok (λ n. stores-unless function (wider _ n.holds refl) (λ m. ends n.height (wider _ n.holds refl) (omega arith))))
      (on "?" (says special-name-ok (λ a h w k. wider _ k refl))
      (through plain-name-ok (λ n. ends n.height (wider _ n.holds refl) (omega arith))))

  -- of a namespace with an id the `0x` is part of its bytes
  abbrev behind : ℕ → NameForm → Bool
  behind n (name.Stored i) = true
  behind n name.Parsed = true
  behind n name.Template = true
  behind n name.AnonymousId = leb 2 n
  behind n name.Anonymous = true
  behind n name.Interface = true
  behind n name.Discriminator = true
  behind n name.Plain = true

  nested-of-ok : {w : World} (y : NameForm) (n : ℕ) → behind n y ≡ true → n ≤ w.state.at → Ok w 1 0 (nested_of y) (NodeIs in_scope)
  unfolding nested_of
  nested-of-ok (name.Stored i) n e l = widens in_scope (name-refs-here i) refl
  nested-of-ok name.Parsed n e l = fails
  nested-of-ok name.Template n e l = through template-name-ok (λ n. stores (wider _ n.holds refl) (λ m. ends n.height (wider _ n.holds refl) (omega arith)))
  nested-of-ok name.AnonymousId n e l =
      heres (reads (counted read_hex_digits hex-fits)
      (λ digits. reads unless
      (λ some. reads (expects "@")
      (λ u. through (shuts {mask = kind.scoped} refl (empty refl) (omega (arith, leb-true 2 n e, digits.holds, eqb-false digits.value 0 some.holds.0, some.holds.1, u.holds, u.inside)))
      (λ n. stores (wider _ n.holds refl) (λ m. ends n.height (wider _ n.holds refl) (omega arith)))))))
  nested-of-ok name.Anonymous n e l = reads (expects "@") (λ u. shuts refl (empty refl) (omega arith))
  nested-of-ok name.Interface n e l =
      heres (reads (spanned read_string string-fits string-least)
      (λ taken. reads (expects "@")
      (λ u. through (shuts {mask = kind.scoped} refl (empty refl) (omega (arith, taken.inside, taken.holds)))
      (λ n. stores (wider _ n.holds refl) (λ m. ends n.height (wider _ n.holds refl) (omega arith))))))
  nested-of-ok name.Discriminator n e l = reads numbers (λ d. shuts refl (empty refl) (omega (arith, d.holds)))
  nested-of-ok name.Plain n e l = widens in_scope plain-name-ok refl

  nested-ok : {w : World} → Ok w 1 0 nested_body (Gives Nested)
  unfolding nested_body
  nested-ok =
      looks (chooses (λ e. reads (expects "?") (λ u. then (opens Parse tt) (λ p. shuts refl (ref p.holds.0 refl (empty refl)) (omega arith))))
      (λ e. orders behind name_forms nested_of refl (λ n y e. nested-of-ok y n e (omega arith)) (widens in_scope plain-name-ok refl)))

  name-ok : {w : World} (function : Bool) → Ok w 1 0 (name_body function) (Gives (Name function))
  unfolding name_body
  name-ok function =
      then (unqualifieds function)
      (λ n. then scope-ok
      (λ l. through (shuts refl (ref (since l n.holds) refl (ref l.holds refl (empty refl))) (omega arith))
      (λ s. ends s.height s.holds (omega arith))))

  pointee-ok : {w : World} → Ok w 0 0 pointee (NodeIs a_type)
  unfolding pointee
  pointee-ok = reads {P = λ v at'. v ≤ kind.class_most} (next ptr64 (λ p. next storages (λ sc. is (omega (arith, p.holds, sc.holds))))) (λ sc. var_types sc.value sc.holds)

  -- a type, and the class of the array's element
  abbrev ElementIs : ℕ → Post (ℕ × ℕ)
  ElementIs mask a h w = NodeIs mask a.0 h w × (a.1 ≤ kind.class_most)

  element-ok : {w : World} → Ok w 0 0 element (ElementIs a_type)
  unfolding element
  element-ok =
      reads {P = λ v at'. v ≤ kind.class_most} (if "$$C" (if "B" (is (omega arith)) (if "C" (is (omega arith)) (if "D" (is (omega arith)) (if "A" (is (omega arith)) refuses)))) (is (omega arith)))
      (λ sc. then (var_types 0 (omega arith))
      (λ t. ends t.height (t.holds, sc.holds) (omega arith)))

  nested-array-ok : {w : World} (dimension : ℕ) → Ok w 0 0 (nested_array dimension) (ElementIs a_type)
  nested-array-ok zero = element-ok
  nested-array-ok (suc dimension) = says (opens (Dimension (suc dimension)) tt) (λ a h w k. (wider _ k.0 refl, k.1))

  dimensions-ok : {w : World} (dimension : ℕ) → Ok w 1 0 (dimensions dimension) (ElementIs kind.var_type)
  unfolding dimensions
  dimensions-ok dimension =
      reads numbers
      (λ len. then (nested-array-ok (dimension - 1))
      (λ inner. through (shuts refl (ref inner.holds.0 refl (empty refl)) (omega (arith, len.holds, inner.holds.1)))
      (λ n. ends n.height (n.holds, inner.holds.1) (omega arith))))

  array_ok : {w : World} → Ok w 1 0 array (NodeIs kind.var_type)
  unfolding array
  array_ok = reads numbers (λ dimension. reads {P = λ u at'. Unit {0}} (either refuses (is tt)) (λ u. through (dimensions-ok dimension.value) (λ a. ends a.height a.holds.0 (omega arith))))

  func-return-type-ok : {w : World} (sc : ℕ) → sc ≤ kind.class_most → Ok w 0 0 (func_return_type sc) (NodeIs a_return)
  unfolding func_return_type
  func-return-type-ok sc l = looks (chooses (λ e. widens a_return (opens NoReturn tt) refl) (λ e. widens a_return (var_types sc l) refl))

  func-type-ok : {w : World} (read_qualifiers : Bool) → Ok w 1 0 (func_type read_qualifiers) (NodeIs kind.function)
  unfolding func_type
  func-type-ok read_qualifiers =
      reads (either func-qualifiers (is (omega arith)))
      (λ sc. reads conventions
      (λ conv. reads (if "?" storages (is (omega arith)))
      (λ var_sc. then (var_types var_sc.value (omega (arith, var_sc.holds)))
      (λ t. then func-params-ok
      (λ l. shuts refl (ref (since l t.holds) refl (ref l.holds refl (empty refl))) (omega (arith, sc.holds, conv.holds)))))))

  member-classes-ok : {at : ℕ} (read_qualifiers : Bool) (ptr64 : ℕ) → ptr64 ≤ PTR64 → Calm x.symbol at (λ a at'. (a.0 ≤ kind.class_most) × (a.1 ≤ kind.func_class_most)) (member_classes read_qualifiers ptr64)
  unfolding member_classes
  member-classes-ok true ptr64 l = next qualifiers (λ q. is (omega (arith, q.holds)))
  member-classes-ok false ptr64 l = next func-classes (λ f. is (omega (arith, f.holds)))

  member-function-pointer-ok : {w : World} (read_qualifiers : Bool) → Ok w 1 0 (member_function_pointer read_qualifiers) (NodeIs kind.var_type)
  unfolding member_function_pointer
  member-function-pointer-ok read_qualifiers =
      then (names true)
      (λ s. reads ptr64
      (λ p. reads (member-classes-ok read_qualifiers p.value p.holds)
      (λ c. reads conventions
      (λ conv. reads return-classes
      (λ return_sc. then (func-return-type-ok return_sc.value return_sc.holds)
      (λ t. then func-params-ok
      (λ l. shuts refl (ref (since l t.holds) refl (ref l.holds refl (ref (since l (since t s.holds)) refl (empty refl)))) (omega (arith, c.holds, conv.holds)))))))))

  -- a name of a kind, and a pointer of one
  named_ok : {w : World} (k : Kind) (sc : ℕ) → row_of (kind_number k) ≡ kind.row kind.var_type kind.symbol kind.nothing kind.nothing kind.class_most 0 0 0 0 → rises (kind_number k) ≡ 1 → is_id (kind_number k) ≡ false → sc ≤ kind.class_most → Ok w 1 0 (named k sc) (NodeIs kind.var_type)
  named_ok k sc e r d l = then (names false) (λ n. shuts-by _ e r d refl (ref n.holds refl (empty refl)) (omega arith))

  pointing-ok : {w : World} (k : Kind) (sc : ℕ) → row_of (kind_number k) ≡ kind.row kind.var_type a_type kind.nothing kind.nothing kind.class_most 0 0 0 0 → rises (kind_number k) ≡ 1 → is_id (kind_number k) ≡ false → sc ≤ kind.class_most → Ok w 1 0 (pointing k sc) (NodeIs kind.var_type)
  pointing-ok k sc e r d l = then pointee-ok (λ t. shuts-by _ e r d refl (ref t.holds refl (empty refl)) (omega arith))

  -- the basic types are 22 kinds of one shape
  abbrev basic : List ℕ
  basic = kind.row kind.var_type kind.nothing kind.nothing kind.nothing kind.class_most 0 0 0 0

  basic-row : (k : ℕ) → k ≤ 21 → row_of (38 + k) ≡ basic
  basic-row k l =
      let same : take 22 (drop 38 kind.shapes) ≡ replicate 22 basic = refl in
      sym (get_or-drop 38 kind.shapes k []) ∙ sym (get_or-take 22 (drop 38 kind.shapes) k [] (omega arith)) ∙ ap (λ (rows : List (List ℕ)). get_or rows k []) same ∙ get_or-replicate 22 k basic [] (omega arith)

  basic-ok : {w : World} (k sc : ℕ) → k ≤ 21 → sc ≤ kind.class_most → Ok w 1 0 (close (Basic k) (sc ∷ []) []) (NodeIs kind.var_type)
  basic-ok k sc l h = shuts-by basic (basic-row k l) (rw (lt-leb (38 + k) 2 (omega arith))) (ne_eqb (38 + k) (kind_number AnonymousId) (λ e. omega arith)) refl (empty refl) (omega arith)

  abbrev is_basic : ℕ → TypeLetter → Bool
  is_basic n letter.Parameter = true
  is_basic n letter.Union = true
  is_basic n letter.Struct = true
  is_basic n letter.Class = true
  is_basic n letter.Ref = true
  is_basic n letter.VolatileRef = true
  is_basic n letter.Ptr = true
  is_basic n letter.ConstPtr = true
  is_basic n letter.VolatilePtr = true
  is_basic n letter.ConstVolatilePtr = true
  is_basic n letter.Array = true
  is_basic n (letter.Basic k) = leb k 21

  letter-type-ok : {w : World} (sc : ℕ) → sc ≤ kind.class_most → (n : ℕ) (y : TypeLetter) → is_basic n y ≡ true → Ok w 1 0 (letter_type sc y) (NodeIs kind.var_type)
  unfolding letter_type
  letter-type-ok sc l m letter.Parameter e = reads numbers (λ n. shuts refl (empty refl) (omega arith))
  letter-type-ok sc l m letter.Union e = named_ok Union sc refl refl refl l
  letter-type-ok sc l m letter.Struct e = named_ok Struct sc refl refl refl l
  letter-type-ok sc l m letter.Class e = named_ok Class sc refl refl refl l
  letter-type-ok sc l m letter.Ref e = pointing-ok Ref sc refl refl refl l
  letter-type-ok sc l m letter.VolatileRef e = pointing-ok Ref VOLATILE refl refl refl (omega arith)
  letter-type-ok sc l m letter.Ptr e = pointing-ok Ptr sc refl refl refl l
  letter-type-ok sc l m letter.ConstPtr e = pointing-ok Ptr CONST refl refl refl (omega arith)
  letter-type-ok sc l m letter.VolatilePtr e = pointing-ok Ptr VOLATILE refl refl refl (omega arith)
  letter-type-ok sc l m letter.ConstVolatilePtr e = pointing-ok Ptr (CONST + VOLATILE) refl refl refl (omega arith)
  letter-type-ok sc l m letter.Array e = array_ok
  letter-type-ok sc l m (letter.Basic k) e = basic-ok k sc (leb-true k 21 e) l

  no-letter-ok : {w : World} → Ok w 1 0 no_letter (NodeIs kind.var_type)
  no-letter-ok {w} = inside (λ i. looks (skips (omega (arith, length-drop w.state.at x.symbol)) fails))

  plain-type-ok : {w : World} (sc : ℕ) → sc ≤ kind.class_most → Ok w 1 0 (plain_type sc) (NodeIs kind.var_type)
  unfolding plain_type
  plain-type-ok sc l = orders is_basic type_letters (letter_type sc) refl (λ n y e. letter-type-ok sc l n y e) no-letter-ok

  form-type-ok : {w : World} (sc : ℕ) → sc ≤ kind.class_most → (y : TypeForm) → Ok w 1 0 (form_type sc y) (NodeIs a_type)
  unfolding form_type
  form-type-ok sc l form.Enum = widens a_type (named_ok Enum sc refl refl refl l) refl
  form-type-ok sc l form.FunctionRef = then (opens Func tt) (λ f. shuts refl (ref f.holds refl (empty refl)) (omega arith))
  form-type-ok sc l form.FunctionPtr = then (opens Func tt) (λ f. shuts refl (ref f.holds refl (empty refl)) (omega arith))
  form-type-ok sc l form.MemberFunctionPtr = widens a_type (member-function-pointer-ok true) refl
  form-type-ok sc l form.Constant = reads numbers (λ n. shuts refl (empty refl) (omega (arith, n.holds)))
  form-type-ok sc l form.TemplateParameter = reads numbers (λ n. shuts refl (empty refl) (omega (arith, n.holds)))
  form-type-ok sc l form.Array = widens a_type array_ok refl
  form-type-ok sc l form.RValueRef = widens a_type (pointing-ok RValueRef sc refl refl refl l) refl
  form-type-ok sc l form.EmptyPack = shuts refl (empty refl) (omega arith)
  form-type-ok sc l form.Nullptr = shuts refl (empty refl) (omega arith)
  form-type-ok sc l form.Function = widens a_type (func-type-ok false) refl
  form-type-ok sc l form.QualifiedFunction = widens a_type (func-type-ok true) refl
  form-type-ok sc l form.Alias = then (names true) (λ n. shuts refl (ref n.holds refl (empty refl)) (omega arith))
  form-type-ok sc l form.Reclassed = reads qualifiers (λ q. widens a_type (plain-type-ok q.value (omega (arith, q.holds))) refl)
  form-type-ok sc l form.MemberPointer = reads (expects "?") (λ u. widens a_type (member-function-pointer-ok false) refl)
  form-type-ok sc l form.Plain = widens a_type (plain-type-ok sc l) refl

  abbrev anything : {X : Type 0} → ℕ → X → Bool
  anything n y = true

  var-type-ok : {w : World} (sc : ℕ) → sc ≤ kind.class_most → Ok w 1 0 (var_type_body sc) (NodeIs a_type)
  unfolding var_type_body
  var-type-ok sc l = orders anything type_forms (form_type sc) refl (λ n y e. form-type-ok sc l y) (widens a_type (plain-type-ok sc l) refl)

  chars-ok : {w : World} (y : Encoded) → w.state.at ≤ length x.symbol → EncodedFits (length (drop w.state.at x.symbol)) y → Ok w 1 0 (chars_is w.state.at y) (NodeIs outer_types)
  chars-ok {w} (std.Ok c) i h = skips (omega (arith, h.2, length-drop w.state.at x.symbol)) (shuts refl (empty refl) (omega (arith, h.1, h.2, length-drop w.state.at x.symbol)))
  chars-ok {w} (std.Err n) i h = skips (omega (arith, length-drop w.state.at x.symbol)) fails

  encoded-string-ok : {w : World} (width : ℕ) → Ok w 1 0 (encoded_string width) (NodeIs outer_types)
  unfolding encoded_string
  encoded-string-ok {w} width = inside (λ i. looks (chars-ok (read_encoded_string width (drop w.state.at x.symbol)) i (encoded-fits width (drop w.state.at x.symbol))))

  member-function-ok : {w : World} → Ok w 1 0 member_function (NodeIs outer_types)
  unfolding member_function
  member-function-ok =
      reads func-classes
      (λ func_class. reads (either (is (omega arith)) func-qualifiers)
      (λ sc. reads conventions
      (λ conv. reads return-classes
      (λ return_sc. then (func-return-type-ok return_sc.value return_sc.holds)
      (λ t. then func-params-ok
      (λ l. shuts refl (ref (since l t.holds) refl (ref l.holds refl (empty refl))) (omega (arith, func_class.holds, sc.holds, conv.holds))))))))

  abbrev is_variable : ℕ → SymbolForm → Bool
  is_variable n (symbol.Variable k) = leb k kind.variable_most
  is_variable n symbol.VFTable = true
  is_variable n symbol.VBTable = true
  is_variable n symbol.ExternC = true
  is_variable n symbol.Function = true
  is_variable n symbol.String = true
  is_variable n symbol.VCallThunk = true
  is_variable n symbol.Rtti = true
  is_variable n symbol.Member = true
  is_variable n symbol.Nothing = true

  symbol-type-of-ok : {w : World} (n : ℕ) (y : SymbolForm) → is_variable n y ≡ true → Ok w 1 0 (symbol_type_of y) (NodeIs outer_types)
  unfolding symbol_type_of
  symbol-type-of-ok n (symbol.Variable k) e = then (var_types 0 (omega arith)) (λ t. reads storages (λ sc. shuts refl (ref t.holds refl (empty refl)) (omega (arith, sc.holds, leb-true k kind.variable_most e))))
  symbol-type-of-ok n symbol.VFTable e = reads qualifiers (λ sc. then scope-ok (λ l. shuts refl (ref l.holds refl (empty refl)) (omega (arith, sc.holds))))
  symbol-type-of-ok n symbol.VBTable e = reads qualifiers (λ sc. then scope-ok (λ l. shuts refl (ref l.holds refl (empty refl)) (omega (arith, sc.holds))))
  symbol-type-of-ok n symbol.ExternC e = shuts refl (empty refl) (omega arith)
  symbol-type-of-ok n symbol.Function e =
      reads conventions
      (λ conv. reads return-classes
      (λ return_sc. then (var_types return_sc.value return_sc.holds)
      (λ t. then func-params-ok
      (λ l. shuts refl (ref (since l t.holds) refl (ref l.holds refl (empty refl))) (omega (arith, conv.holds))))))
  symbol-type-of-ok n symbol.String e = reads (leaves read_string_width string-width-fits) (λ width. encoded-string-ok width.value)
  symbol-type-of-ok n symbol.VCallThunk e =
      reads (expects "B")
      (λ u. reads numbers
      (λ offset. reads (expects "A")
      (λ u. reads conventions
      (λ conv. shuts refl (empty refl) (omega (arith, offset.holds, conv.holds))))))
  symbol-type-of-ok n symbol.Rtti e = shuts refl (empty refl) (omega arith)
  symbol-type-of-ok n symbol.Member e = member-function-ok
  symbol-type-of-ok n symbol.Nothing e = shuts refl (empty refl) (omega arith)

  symbol-type-ok : {w : World} → Ok w 1 0 symbol_type_body (NodeIs outer_types)
  unfolding symbol_type_body
  symbol-type-ok = orders is_variable symbol_forms symbol_type_of refl (λ n y e. symbol-type-of-ok n y e) (looks (chooses (λ e. shuts refl (empty refl) (omega arith)) (λ e. member-function-ok)))

  index-and-one-ok : {at : ℕ} → Calm {Ans = Ans} x.symbol at (λ v at'. v ≤ kind.guard_most) index_and_one
  unfolding index_and_one
  index-and-one-ok = seen (either (is (omega arith)) (next (valued read_unsigned 2147483647 unsigned-fits unsigned-below) (λ index. is (omega (arith, index.holds)))))

  guard-index-ok : {at : ℕ} (guard : Bool) → Calm {Ans = Ans} x.symbol at (λ v at'. v ≤ kind.guard_most) (guard_index guard)
  unfolding guard_index
  guard-index-ok false = is (omega arith)
  guard-index-ok true = next (leaves read_guard_marker guard-marker-fits) (λ visible. index-and-one-ok)

  parsed-ok :
      {w : World} {need h k : ℕ} (index s t : ℕ) → Known (kind.symbol + kind.outer) w.nodes (s + 1) h → Known outer_types w.nodes (t + 1) k → index ≤ kind.guard_most → need ≤ max h k → Ok w 1 need (parsed index s t) (LastIs kind.parsed 3)
  parsed-ok index s t f g l n = shuts-last (row_of 3) refl refl (ref f refl (ref g refl (empty refl))) (omega arith)

  parse-of-ok : {w : World} (y : ParseForm) → Ok w 1 0 (parse_of y) (LastIs kind.parsed 3)
  unfolding parse_of
  parse-of-ok parse.Md5 = then (opens OuterMd5 tt) (λ s. then (opens NoType tt) (λ t. parsed-ok 0 s.value t.value (since t (wider _ s.holds refl)) (wider _ t.holds refl) (omega arith) (omega arith)))
  parse-of-ok parse.Guard =
      reads (valued read_guard_number kind.any guard-number-fits guard-number-below)
      (λ n. then (opens OuterGuard tt)
      (λ s. then (opens (GuardType n.value) n.holds)
      (λ t. parsed-ok 0 s.value t.value (since t (wider _ s.holds refl)) (wider _ t.holds refl) (omega arith) (omega arith))))
  parse-of-ok parse.Template = then (opens OuterTemplate tt) (λ s. then (opens NoType tt) (λ t. parsed-ok 0 s.value t.value (since t (wider _ s.holds refl)) (wider _ t.holds refl) (omega arith) (omega arith)))
  parse-of-ok parse.Name =
      then (opens (Name true) tt)
      (λ s. reads (guard-index-ok s.value.1)
      (λ index. then (opens SymbolType tt)
      (λ t. parsed-ok index.value s.value.0 t.value (since t (wider _ s.holds refl)) t.holds index.holds (omega arith))))

  body_ok : {w : World} (tag : Tag) → Asks tag → Ok w 1 0 (body tag) (Gives tag)
  unfolding body
  body_ok Parse a = reads (expects "?") (λ u. orders anything parse_forms parse_of refl (λ n y e. parse-of-ok y) (parse-of-ok parse.Name))
  body_ok OuterMd5 a = then (opens MdFive tt) (λ n. shuts refl (ref n.holds refl (empty refl)) (omega arith))
  body_ok MdFive a = heres (reads (spanned read_md5_name md5-fits md5-least) (λ taken. shuts refl (empty refl) (omega (arith, taken.inside, taken.holds))))
  body_ok OuterTemplate a = then (opens OuterName tt) (λ n. shuts refl (ref n.holds refl (empty refl)) (omega arith))
  body_ok OuterName a = template-name-ok
  body_ok OuterGuard a = then nesteds (λ n. then scope-ok (λ l. shuts refl (ref (since l n.holds) refl (ref l.holds refl (empty refl))) (omega arith)))
  body_ok SymbolType a = symbol-type-ok
  body_ok NoType a = shuts refl (empty refl) (omega arith)
  body_ok (GuardType n) a = reads (expects "4HA") (λ u. shuts refl (empty refl) (omega arith))
  body_ok (Name function) a = name-ok function
  body_ok (Unqualified function) a = unqualified-ok function
  body_ok Nested a = nested-ok
  body_ok (VarType sc) a = var-type-ok sc a
  body_ok Func a = func-type-ok false
  body_ok (Dimension dimension) a = dimensions-ok dimension
  body_ok Variadic a = reads (expects "Z") (λ u. shuts refl (empty refl) (omega arith))
  body_ok NoParams a = reads (expects "X") (λ u. shuts refl (empty refl) (omega arith))
  body_ok NoReturn a = reads (expects "@") (λ u. shuts refl (empty refl) (omega arith))

-- what a reading leaves that answers with n: a well-formed table, whatever stands behind it; its last node is the root, a ParseResult; each id has a digit, and no name that is stored is a namespace without an id; the counts are its nodes and its height
pub record Whole (s : List ℕ) (n : ℕ) (st : State) (ns : List Node) : Type 0 where
  pub formed : well_formed (cells_of ns) (length s) (length ns) ≡ true
  pub held : (tail : List ℕ) → well_formed (cells_of ns ++ tail) (length s) (length ns) ≡ true
  pub last : n + 1 ≡ length ns
  pub root : kind_at ns n ≡ kind_number ParseResult
  pub ids : (tail : List ℕ) (i : ℕ) → i < length ns → cell_of (cells_of ns ++ tail) i KIND ≡ kind_number AnonymousId → 3 ≤ cell_of (cells_of ns ++ tail) i Q
  pub named : (tail : List ℕ) (i : ℕ) → i < st.memo.names_len → cell_of (cells_of ns ++ tail) (get_or st.memo.names i 0) KIND ≡ kind_number Anonymous → ⊥
  pub used : st.used ≡ length ns
  pub deep : st.deep ≡ height_of ns (n + 1)

whole : (s : List ℕ) (w : World) (n : ℕ) (w' : World) → w.state.deep ≡ 0 → Ended s 0 w 0 0 (LastIs kind.parsed 3) n w' → Whole s n w'.state w'.nodes
whole s w n w' d e = record {
  formed = rw (append-nil (cells_of w'.nodes)) at (well-formed (length s) w'.nodes [] e.good.formed);
  held = λ tail. well-formed (length s) w'.nodes tail e.good.formed;
  last = e.holds.1;
  root = e.holds.2;
  ids = λ tail i l k. ids-long (length s) tail [] w'.nodes e.good.formed i l k;
  named = λ tail i l k. never-idless tail w'.nodes _ (e.good.memo.name i l) k;
  used = e.good.used;
  deep = omega (arith, e.shallow, e.holds.0.high, e.good.low (n + 1));
}

-- the same of a table whose first cells these are
pub record Left (s : List ℕ) (n : ℕ) (st : State) (t : List ℕ) : Type 0 where
  pub formed : well_formed t (length s) st.used ≡ true
  pub last : n + 1 ≡ st.used
  pub root : cell_of t n 0 ≡ kind_number ParseResult
  pub deep : st.deep ≡ height_at t (n + 1)

left : {s t₀ : List ℕ} {n : ℕ} {st : State} {ns : List Node} (t : List ℕ) → Whole s n st ns → Holds t₀ st.used ns t → Left s n st t
left {s} {t₀} {n} {st} {ns} t w h =
    let tail : List ℕ = drop (st.used * 12) t₀ in
    record {
      formed = rw (h.is, ← h.long) (w.held (drop (length ns * 12) t₀));
      last = w.last ∙ sym w.used;
      root = rw h.is (cell-kind tail ns n (omega (arith, w.last)) ∙ w.root);
      deep = w.deep ∙ rw h.is (sym (height-cells tail ns (n + 1) (omega (arith, w.last))));
    }

-- the theorem, for every limit and room
module _ (s : List ℕ) (short : Short s) (limit room : ℕ) (start : State)
    (no-at : start.at ≡ 0) (no-used : start.used ≡ 0) (no-deep : start.deep ≡ 0) (no-memo : start.memo ≡ empty_memo) where
  -- over a list of nodes, and whatever is taken for equal nodes
  pub grammar-formed : (same : Same (List Node)) {n : ℕ} {st : State} {ns : List Node} → read_nodes body same s limit room limit Parse start [] ≡ out (found n) st ns → Whole s n st ns
  grammar-formed same {n} {st} {ns} e =
      let w : World = world start [] in
      let g : Good s w = record { inside = omega arith; used = no-used; formed = tt; low = λ r. omega arith; memo = rw no-memo (none-stored []) } in
      let z = reads-sound {Asks = Asks} {Gives = Gives} body same s limit room (λ x q w tag a. body_ok x (rw q (omega arith)) tag a) limit (omega arith) Parse tt w g in
      let y : Ended s (limit - limit) w 0 0 (LastIs kind.parsed 3) n (world st ns) = (subst (λ (o : Out ℕ (List Node)). Ends s (limit - limit) w 0 0 (LastIs kind.parsed 3) o) e z).end in
      let c : limit - limit ≡ 0 = omega arith in
      whole s w n (world st ns) no-deep (rw c at y)

  -- and over a lent table, where the room is no more than it has
  pub table-formed : (t₀ : List ℕ) → room ≤ nodes t₀ → {n : ℕ} {st : State} {t : List ℕ} → read_table body s limit room limit Parse start t₀ ≡ out (found n) st t → Left s n st t
  table-formed t₀ enough {n} {st} {t} e =
      let y : Out ℕ (List Node) = read_nodes body (same_nodes s) s limit room limit Parse start [] in
      let none : Holds t₀ start.used [] t₀ = rw no-used (record { is = refl; long = refl; fits = omega arith }) in
      let a : Agree t₀ (out (found n) st t) y = subst (λ (o : Out ℕ (List ℕ)). Agree t₀ o y) e (reads-agree t₀ s limit room enough body limit Parse start t₀ [] none) in
      let r : y ≡ out (found n) st y.cells = ap₂ (λ (r : Reply ℕ) (st : State). out r st y.cells) (sym a.reply) (sym a.state) in
      left t (grammar-formed (same_nodes s) r) (subst (λ (v : State). Holds t₀ v.used y.cells t) (sym a.state) a.holds)
