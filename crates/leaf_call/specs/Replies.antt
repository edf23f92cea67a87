-- The leaves by number, in the order of the port. Assumes nothing: these are definitions.
use Rattle.std.specs.Prelude.{ℕ, List, [], ◌∷◌, get_or}
use Rattle.scan.specs.Cursor.{get_byte, read_digit, read_hex_digit}
use Rattle.scan.specs.Name.{read_string, read_hex_digits, read_md5_name}
use Rattle.scan.specs.Number.{read_number, read_unsigned, read_guard_number}
use Rattle.strings.specs.Encoded.{character, read_encoded_string}
use Rattle.letters.specs.Classes.{read_calling_conv, read_func_class, read_storage_class, read_qualifier, read_storage_class_for_return, read_func_qualifiers, read_string_width, read_guard_marker}
use Rattle.operators.specs.Operators.{read_operator}
use Rattle.forms.specs.Types.{type_start, type_letter, type_reference}
use Rattle.forms.specs.Begins.{parse_start, symbol_start, name_start}
use Rattle.leaf_call.specs.declared.reply.Reply.{Reply}
use Rattle.leaf_call.specs.Answers.{accepted, refusal, of_found, of_span, of_leaf, of_class, of_encoded}
use Rattle.leaf_call.specs.Starts.{of_type_start, of_type_head, of_reference, of_parse_start, of_symbol_start, of_name_start}

-- what each leaf answers of the bytes that remain
abbrev pub replies : List ℕ → List Reply
replies r =
    of_found (get_byte r) ∷ of_found (read_digit r) ∷ of_found (read_hex_digit r) ∷ of_span (read_string r)
    ∷ of_leaf (read_number r) ∷ of_leaf (read_unsigned r) ∷ of_leaf (read_guard_number r)
    ∷ of_span (read_md5_name r) ∷ accepted (read_hex_digits r) (read_hex_digits r)
    ∷ of_leaf (character r) ∷ of_encoded (read_encoded_string 1 r) ∷ of_encoded (read_encoded_string 2 r)
    ∷ of_leaf (read_calling_conv r) ∷ of_leaf (read_func_class r) ∷ of_class (read_storage_class r) ∷ of_class (read_qualifier r)
    ∷ of_leaf (read_storage_class_for_return r) ∷ of_class (read_func_qualifiers r) ∷ of_leaf (read_string_width r)
    ∷ of_leaf (read_operator r) ∷ of_leaf (read_guard_marker r)
    ∷ of_type_start (type_start r) ∷ of_reference (type_reference r) ∷ of_name_start (name_start r) ∷ of_parse_start (parse_start r)
    ∷ of_symbol_start (symbol_start r) ∷ of_type_head (type_letter r) ∷ []

-- no such leaf is 7, as an unknown flag is
unfoldable pub leaf_reply : ℕ → List ℕ → Reply
leaf_reply leaf r = get_or (replies r) leaf (refusal 7 0)
