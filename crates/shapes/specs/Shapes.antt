-- What is left to read of each shape. Where a production of the grammar goes on by a letter, a number or a range that its text shows, a shape has it already.
-- Assumes nothing: these are definitions.
use Rattle.std.specs.Prelude.{ℕ, [], ◌∷◌, Bool, true, false}
use Rattle.letters.specs.StorageClass.{PTR64}
use Rattle.letters.specs.Classes.{read_calling_conv, read_storage_class, read_storage_class_for_return, read_qualifier}
use Rattle.forms.specs.declared.begins.NameForm.{NameForm}
use Rattle.forms.specs.declared.begins.NameForm.TheVariants as form
use Rattle.forms.specs.declared.types.TypeLetter.{TypeLetter}
use Rattle.forms.specs.declared.types.TypeLetter.TheVariants as letter
use Rattle.grammar.specs.Program.{ret, part, node}
use Rattle.grammar.specs.Words.{◌>>=◌, ◌>>◌, ◌⇒◌∥◌, leaf, class, memorize_name, name_of, number}
use Rattle.node.specs.Kind.{kind_number, NonTemplate, RttiTypeDescriptor, RttiBaseClassDescriptor, Operator, ParsedName, NonMemberFunction, Var}
use Rattle.grammar.specs.Grammar.{Reading, Parse, Func, close, to, name', var_type, pointee, array, member_function_pointer, func_type, func_return_type, func_params, member_function, plain_function, scope, template_name, nested_of, special_name, is_guard}
use Rattle.ends.specs.Ends.{leaf_name, stored_unless}
use Rattle.shapes.specs.declared.types.Shape.{Shape}
use Rattle.shapes.specs.declared.types.Shape.TheVariants as types
use Rattle.shapes.specs.declared.heads.Signature.{Signature}
use Rattle.shapes.specs.declared.symbols.SymbolShape.{SymbolShape}
use Rattle.shapes.specs.declared.symbols.SymbolShape.TheVariants as symbols
use Rattle.shapes.specs.declared.names.NameShape.{NameShape}
use Rattle.shapes.specs.declared.names.NameShape.TheVariants as names
use Rattle.shapes.specs.declared.names.UnqualifiedShape.{UnqualifiedShape}
use Rattle.shapes.specs.declared.names.UnqualifiedShape.TheVariants as unqualified
use Rattle.shapes.specs.declared.names.SpecialShape.{SpecialShape}
use Rattle.shapes.specs.declared.names.SpecialShape.TheVariants as special

-- types
-- the number of a basic type; 0 of another letter
abbrev pub basic_of : TypeLetter → ℕ
basic_of (letter.Basic k) = k
basic_of letter.Parameter = 0
basic_of letter.Union = 0
basic_of letter.Struct = 0
basic_of letter.Class = 0
basic_of letter.Ref = 0
basic_of letter.VolatileRef = 0
basic_of letter.Ptr = 0
basic_of letter.ConstPtr = 0
basic_of letter.VolatilePtr = 0
basic_of letter.ConstVolatilePtr = 0
basic_of letter.Array = 0

abbrev pub shape_type : Shape → Reading ℕ
shape_type (types.Named kind function sc) = do
  n ← name' function
  node kind (sc ∷ []) (to n ∷ []) ret
shape_type (types.Pointing kind sc) = do
  t ← pointee
  node kind (sc ∷ []) (to t ∷ []) ret
shape_type (types.ToFunction kind sc) = do
  f ← part Func ret
  node kind (sc ∷ []) (to f ∷ []) ret
shape_type (types.Member qualifiers) = member_function_pointer qualifiers
shape_type (types.Function qualifiers) = func_type qualifiers
shape_type types.Array = array
shape_type (types.Leaf kind p) = node kind (p ∷ []) [] ret

abbrev pub numbered_type : ℕ → Reading ℕ
numbered_type kind = do
  n ← number
  node kind (n ∷ []) [] ret

-- functions: behind the head come the return, which may be a structor's, and the parameters
abbrev pub signed : ℕ → ℕ → ℕ → ℕ → ℕ → ℕ → Bool → Signature
signed kind sc convention func_class third return_sc structor =
    record { kind = kind; class = sc; convention = convention; func_class = func_class; third = third; return_class = return_sc; structor = structor }

abbrev pub returned : Bool → ℕ → Reading ℕ
returned true sc = func_return_type sc
returned false sc = var_type sc

abbrev pub tail_of : Signature → Reading ℕ
tail_of x = do
  t ← returned x.structor x.return_class
  l ← func_params
  node x.kind (x.class ∷ x.convention ∷ x.func_class ∷ []) (to t ∷ l ∷ x.third ∷ []) ret

-- a convention and the class of the return come into a signature that lacks them
abbrev pub conventions : Signature → Reading ℕ
conventions x = do
  conv ← leaf read_calling_conv
  return_sc ← leaf read_storage_class_for_return
  tail_of (signed x.kind x.class conv x.func_class x.third return_sc x.structor)

abbrev pub variable_class : Reading ℕ
variable_class = "?" ⇒ class read_storage_class ∥ ret 0

abbrev pub ptr64_class : Reading ℕ
ptr64_class = "E" ⇒ ret PTR64 ∥ ret 0

abbrev pub function_rest : ℕ → Reading ℕ
function_rest sc = do
  conv ← leaf read_calling_conv
  var_sc ← variable_class
  t ← var_type var_sc
  l ← func_params
  close NonMemberFunction (sc ∷ conv ∷ []) (to t ∷ l ∷ [])

-- a symbol's own type
abbrev pub shape_symbol : SymbolShape → Reading ℕ
shape_symbol (symbols.Variable kind) = do
  t ← var_type 0
  sc ← class read_storage_class
  close Var (sc ∷ kind ∷ []) (to t ∷ [])
shape_symbol (symbols.Table kind sc) = do
  l ← scope
  node kind (sc ∷ []) (l ∷ []) ret
shape_symbol (symbols.Function true) = member_function
shape_symbol (symbols.Function false) = plain_function
shape_symbol (symbols.Leaf kind p q) = node kind (p ∷ q ∷ []) [] ret

abbrev pub table_of : ℕ → Reading ℕ
table_of kind = do
  sc ← class read_qualifier
  l ← scope
  node kind (sc ∷ []) (l ∷ []) ret

-- names
abbrev pub shape_name : NameShape → Reading ℕ
shape_name (names.Stored i) = name_of i
shape_name names.Parsed = do
  p ← part Parse ret
  close ParsedName [] (to p ∷ [])
shape_name names.Template = do
  n ← template_name
  memorize_name n
  ret n
shape_name (names.Leaf kind p q stored) = leaf_name kind p q stored

-- a nested name by what it begins with; a symbol as a name is `??`, of which one `?` is its own
abbrev pub name_form_of : NameForm → Reading ℕ
name_form_of form.Parsed = shape_name names.Parsed
name_form_of (form.Stored i) = nested_of (form.Stored i)
name_form_of form.Template = nested_of form.Template
name_form_of form.AnonymousId = nested_of form.AnonymousId
name_form_of form.Anonymous = nested_of form.Anonymous
name_form_of form.Interface = nested_of form.Interface
name_form_of form.Discriminator = nested_of form.Discriminator
name_form_of form.Plain = nested_of form.Plain

-- names with whether each is a guard's: a template's is stored, but for a function's own
abbrev pub unguarded : Reading ℕ → Reading (ℕ × Bool)
unguarded p = do
  n ← p
  ret (n, false)

abbrev pub shape_unqualified : Bool → UnqualifiedShape → Reading (ℕ × Bool)
shape_unqualified function unqualified.Template = do
  n ← template_name
  stored_unless function n
shape_unqualified function unqualified.Special = special_name
shape_unqualified function (unqualified.Plain start length) = unguarded (leaf_name (kind_number NonTemplate) start length true)

-- special names
abbrev pub shape_special : SpecialShape → Reading (ℕ × Bool)
shape_special (special.Operator op) = do
  n ← close Operator (op ∷ []) []
  ret (n, is_guard op)
shape_special (special.Type sc) = unguarded (do
  t ← var_type sc
  close RttiTypeDescriptor (sc ∷ []) (to t ∷ []))
shape_special (special.Base p q r flags) = unguarded (close RttiBaseClassDescriptor (p ∷ q ∷ r ∷ flags ∷ []) [])
