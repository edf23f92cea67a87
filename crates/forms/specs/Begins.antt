-- What parse, the symbol's type in it, and read_nested_name begin with, in the order of their lines. Assumes nothing: these are definitions.
use Rattle.std.specs.Prelude.{ℕ, List, [], ◌∷◌}
use Prim.Native.String.{String}
use Rattle.forms.specs.declared.start.Start.{Start}
use Rattle.forms.specs.Start.{start}
use Rattle.scan.specs.Bytes.{pick, bytes, starts, spelled}
use Rattle.forms.specs.declared.begins.ParseForm.{ParseForm}
use Rattle.forms.specs.declared.begins.ParseForm.TheVariants as parse
use Rattle.forms.specs.declared.begins.SymbolForm.{SymbolForm}
use Rattle.forms.specs.declared.begins.SymbolForm.TheVariants as symbol
use Rattle.forms.specs.declared.begins.NameForm.{NameForm}
use Rattle.forms.specs.declared.begins.NameForm.TheVariants as name

-- parse, behind its `?`
abbrev pub parse_forms : List (String × ParseForm)
parse_forms = ("?@", parse.Md5) ∷ ("$TSS", parse.Guard) ∷ ("$", parse.Template) ∷ []

unfoldable pub parse_start : List ℕ → Start ParseForm
parse_start r = spelled start parse_forms (start parse.Name 0) r

-- parse, behind the symbol's name. Kinds of variables: PrivateStatic, ProtectedStatic, PublicStatic, Global, FunctionLocalStatic
abbrev pub unlisted : List ℕ → Start SymbolForm
unlisted [] = start symbol.Nothing 0
unlisted (c ∷ r) = start symbol.Member 0

abbrev pub symbol_forms : List (String × SymbolForm)
symbol_forms =
    ("0", symbol.Variable 0) ∷ ("1", symbol.Variable 1) ∷ ("2", symbol.Variable 2) ∷ ("3", symbol.Variable 3) ∷ ("4", symbol.Variable 4)
    ∷ ("6", symbol.VFTable) ∷ ("7", symbol.VBTable) ∷ ("9", symbol.ExternC) ∷ ("Y", symbol.Function) ∷ ("_", symbol.String)
    ∷ ("$", symbol.VCallThunk) ∷ ("8", symbol.Rtti) ∷ []

unfoldable pub symbol_start : List ℕ → Start SymbolForm
symbol_start r = spelled start symbol_forms (unlisted r) r

-- read_nested_name
abbrev pub name_forms : List (String × NameForm)
name_forms =
    ("0", name.Stored 0) ∷ ("1", name.Stored 1) ∷ ("2", name.Stored 2) ∷ ("3", name.Stored 3) ∷ ("4", name.Stored 4)
    ∷ ("5", name.Stored 5) ∷ ("6", name.Stored 6) ∷ ("7", name.Stored 7) ∷ ("8", name.Stored 8) ∷ ("9", name.Stored 9)
    ∷ ("?$", name.Template) ∷ ("?A0x", name.AnonymousId) ∷ ("?A", name.Anonymous) ∷ ("?Q", name.Interface)
    ∷ ("?", name.Discriminator) ∷ []

-- of `??` the second is only looked at: parse begins with it
unfoldable pub name_start : List ℕ → Start NameForm
name_start r = pick (starts (bytes "??") r) (start name.Parsed 1) (spelled start name_forms (start name.Plain 0) r)
