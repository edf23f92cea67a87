-- What the definitions write: symbols with their texts, with no flag set. Assumes nothing.
use Rattle.std.specs.Prelude.{ℕ, ◌≡◌, refl, List, [], ◌∷◌, map}
use Prim.Native.String.{String}
use Rattle.scan.specs.Bytes.{bytes}
use Rattle.scan.specs.Cursor.{read_digit}
use Rattle.scan.specs.Number.{magnitude, read_number}
use Rattle.scan.specs.Name.{string_from}
use Rattle.letters.specs.Classes.{read_calling_conv, read_storage_class, read_storage_class_for_return, read_qualifier}
use Rattle.operators.specs.Operators.{read_operator}
use Rattle.forms.specs.Types.{type_reference}
use Rattle.node.specs.Cells.{cell_of}
use Rattle.meaning.specs.Below.{below}
use Rattle.meaning.specs.Tree.{part, content_of, numbers_of, bytes_of, tree, tree_at, tree_of}
use Rattle.grammar.specs.Program.{Reply, found, refused, run}
use Rattle.grammar.specs.Counts.{shut_asking, read_asking}
use Rattle.grammar.specs.Grammar.{body, scope_from, scope, list_end, new_param, params_from, params, func_params, template_name, plain_name, special_name, unqualified_body, name_body, pointee, letter_type, plain_type, var_type_body, symbol_type_of, symbol_type_body, guard_index, parse_of, form_type, func_type, array, dimensions, element, rtti_type_descriptor, func_return_type, member_classes, member_function_pointer}
use Rattle.text.specs.Emit.{last_of, none, lit, ◌⨾◌}
use Rattle.text.specs.Spaces.{write_space_pre, write_space, space_where, not_set, after_pre, after_close, after_any}
use Rattle.text.specs.Decimal.{decimal, unsigned, digits}
use Rattle.serializer.specs.Serializer.{comma, write_calling_conv, write_storage_class, write_hug, write_one_qual, write_memfn_qualifiers, write_basic, write_plain, write_opening, write_pointee, write_closing, has_some, write_tmpl_params, write_plain_name, write_name_space, is_literal, write_own_name, serialize}
use Rattle.writer.specs.Written.{text_of}
use Rattle.promises.specs.Promises.{own, own_text}

abbrev text_by : List ℕ → Reply ℕ → List ℕ
text_by s (found n) = own_text 0 s n
text_by s (refused why) = []

abbrev shown : String → List ℕ
shown symbol = text_by (bytes symbol) (own (bytes symbol)).reply

abbrev cases : List (String × String)
cases =
    -- an rvalue reference closes what it opens (M-106): a function and an array; what stands below it; in a list, in a template, returned
    ("?f@@YAX$$QA$$A6AXH@Z@Z", "void __cdecl f(void (__cdecl &&)(int))")
    ∷ ("?f@@YAX$$QAY02H@Z", "void __cdecl f(int (&&)[3])")
    ∷ ("?f@@YAX$$QAP6AXXZ@Z", "void __cdecl f(void (__cdecl * &&)(void))")
    ∷ ("?f@@YAX$$QAP8a@@AEXXZ@Z", "void __cdecl f(void (__thiscall a::* &&)(void))")
    ∷ ("?f@@YAXD$$QAY02HD@Z", "void __cdecl f(char,int (&&)[3],char)")
    ∷ ("??$f@$$QA$$A6AXH@Z@@YAXXZ", "void __cdecl f<void (__cdecl &&)(int)>(void)")
    ∷ ("?f@@YA$$QAY02HXZ", "int (&& __cdecl f(void))[3]")
    -- a type descriptor has first halves only, of a reference too
    ∷ ("??_R0?A$$QAY02H@8", "int (&&::`RTTI Type Descriptor'")
    ∷ ("??_R0?AAAY02H@8", "int (&::`RTTI Type Descriptor'")
    ∷ []

worked : map (λ c. shown c.0) cases ≡ map (λ c. bytes c.1) cases
unfolding read_digit magnitude read_number string_from read_calling_conv read_storage_class read_storage_class_for_return read_qualifier read_operator type_reference cell_of below part content_of numbers_of bytes_of tree tree_at tree_of run shut_asking read_asking body scope_from scope list_end new_param params_from params func_params template_name plain_name special_name unqualified_body name_body pointee letter_type plain_type var_type_body symbol_type_of symbol_type_body guard_index parse_of form_type func_type array dimensions element rtti_type_descriptor func_return_type member_classes member_function_pointer last_of none lit ◌⨾◌ write_space_pre write_space space_where not_set after_pre after_close after_any decimal unsigned digits comma write_calling_conv write_storage_class write_hug write_one_qual write_memfn_qualifiers write_basic write_plain write_opening write_pointee write_closing has_some write_tmpl_params write_plain_name write_name_space is_literal write_own_name serialize text_of
worked = refl
