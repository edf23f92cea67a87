-- The forms that productions begin with, by number. Assumes nothing: these are definitions.
use Rattle.std.specs.Prelude.{ℕ, ◌+◌, Option, Some, None}
use Rattle.forms.specs.declared.types.TypeForm.{TypeForm}
use Rattle.forms.specs.declared.types.TypeForm.TheVariants as type
use Rattle.forms.specs.declared.start.Start.{Start}
use Rattle.forms.specs.declared.types.TypeLetter.{TypeLetter}
use Rattle.forms.specs.declared.types.TypeLetter.TheVariants as letter
use Rattle.forms.specs.Types.{Reference}
use Rattle.forms.specs.declared.begins.ParseForm.{ParseForm}
use Rattle.forms.specs.declared.begins.ParseForm.TheVariants as parse
use Rattle.forms.specs.declared.begins.SymbolForm.{SymbolForm}
use Rattle.forms.specs.declared.begins.SymbolForm.TheVariants as symbol
use Rattle.forms.specs.declared.begins.NameForm.{NameForm}
use Rattle.forms.specs.declared.begins.NameForm.TheVariants as name
use Rattle.leaf_call.specs.declared.reply.Reply.{Reply}
use Rattle.leaf_call.specs.Answers.{accepted, refusal}

abbrev pub type_form : TypeForm → ℕ
type_form type.Enum = 0
type_form type.FunctionRef = 1
type_form type.FunctionPtr = 2
type_form type.MemberFunctionPtr = 3
type_form type.Constant = 4
type_form type.TemplateParameter = 5
type_form type.Array = 6
type_form type.RValueRef = 7
type_form type.EmptyPack = 8
type_form type.Nullptr = 9
type_form type.Function = 10
type_form type.QualifiedFunction = 11
type_form type.Alias = 12
type_form type.Reclassed = 13
type_form type.MemberPointer = 14
type_form type.Plain = 15

abbrev pub of_type_start : Start TypeForm → Reply
of_type_start a = accepted (type_form a.form) a.taken

-- a basic type is 32 more than its place
abbrev pub letter_number : TypeLetter → ℕ
letter_number letter.Parameter = 0
letter_number letter.Union = 2
letter_number letter.Struct = 3
letter_number letter.Class = 4
letter_number letter.Ref = 5
letter_number letter.VolatileRef = 6
letter_number letter.Ptr = 7
letter_number letter.ConstPtr = 8
letter_number letter.VolatilePtr = 9
letter_number letter.ConstVolatilePtr = 10
letter_number letter.Array = 11
letter_number (letter.Basic k) = 32 + k

abbrev pub lettered : ℕ → Option TypeLetter → Reply
lettered n (Some l) = accepted (letter_number l) n
lettered n None = refusal 3 n

abbrev pub of_type_head : Start (Option TypeLetter) → Reply
of_type_head a = lettered a.taken a.form

abbrev pub of_reference : Reference → Reply
of_reference (Some (d, n)) = accepted d n
of_reference None = refusal 3 0

abbrev pub parse_form : ParseForm → ℕ
parse_form parse.Md5 = 0
parse_form parse.Guard = 1
parse_form parse.Template = 2
parse_form parse.Name = 3

abbrev pub of_parse_start : Start ParseForm → Reply
of_parse_start a = accepted (parse_form a.form) a.taken

-- a variable is its kind
abbrev pub symbol_form : SymbolForm → ℕ
symbol_form (symbol.Variable k) = k
symbol_form symbol.VFTable = 5
symbol_form symbol.VBTable = 6
symbol_form symbol.Rtti = 7
symbol_form symbol.ExternC = 8
symbol_form symbol.String = 9
symbol_form symbol.VCallThunk = 10
symbol_form symbol.Function = 11
symbol_form symbol.Member = 12
symbol_form symbol.Nothing = 13

abbrev pub of_symbol_start : Start SymbolForm → Reply
of_symbol_start a = accepted (symbol_form a.form) a.taken

-- a stored name is 32 more than its digit
abbrev pub name_form : NameForm → ℕ
name_form (name.Stored d) = 32 + d
name_form name.Parsed = 1
name_form name.Template = 2
name_form name.AnonymousId = 3
name_form name.Anonymous = 4
name_form name.Interface = 5
name_form name.Discriminator = 6
name_form name.Plain = 7

abbrev pub of_name_start : Start NameForm → Reply
of_name_start a = accepted (name_form a.form) a.taken
