-- What the grammar computes: symbols with their answers within budgets of depth and nodes. Assumes nothing.
use Rattle.std.specs.Prelude.{ℕ, ◌≡◌, refl, List, [], ◌∷◌, map, eqb}
use Prim.Native.String.{String}
use Rattle.scan.specs.Bytes.{bytes}
use Rattle.scan.specs.Cursor.{read_digit}
use Rattle.scan.specs.Number.{letters, magnitude, read_number, read_unsigned}
use Rattle.scan.specs.Name.{string_from, hex_digits_from}
use Rattle.letters.specs.Classes.{read_calling_conv, read_storage_class, read_storage_class_for_return, read_guard_marker}
use Rattle.operators.specs.Operators.{read_operator}
use Rattle.forms.specs.Types.{type_reference}
use Rattle.grammar.specs.Program.{Out, Reply, found, refused, Same, run}
use Rattle.grammar.specs.Grammar.{Parse, body, empty_memo, scope_from, scope, list_end, new_param, params_from, params, func_params, template_name, plain_name, special_name, unqualified_body, nested_of, nested_body, name_body, pointee, letter_type, plain_type, var_type_body, symbol_type_of, symbol_type_body, index_and_one, guard_index, parse_of}
use Rattle.grammar.specs.Counts.{Node, asks, read_asking, shut_asking, settle}
use Rattle.grammar.specs.declared.State.{State}
use Rattle.grammar.specs.declared.Refusal.TheVariants.{Syntax, Deep, Full}

abbrev start : State
start = record { at = 0; used = 0; deep = 0; memo = empty_memo }

-- nodes of equal number, in place of equal meaning
abbrev same : Same (List Node)
same used ns a b = eqb a b

abbrev verdict : Out ℕ (List Node) → Reply ℕ × ℕ × ℕ
verdict o = (o.reply, o.state.at, o.state.used)

-- the answer or the refusal, its offset, and the nodes counted
abbrev within : ℕ → ℕ → String → Reply ℕ × ℕ × ℕ
within deepest most t = verdict (settle deepest most (asks body same (bytes t) Parse start))

-- a depth, a number of nodes, a symbol, and what it gives
abbrev cases : List (ℕ × ℕ × String × (Reply ℕ × ℕ × ℕ))
cases =
    -- bytes behind the symbol are left; a name may be empty; `Z` in a list is a type and a place; a guard's index
    (9, 99, "?x@@3HAzzz", (found 4, 7, 5))
    ∷ (9, 99, "?@@", (found 3, 3, 4))
    ∷ (9, 99, "?f@@YAXZZ", (found 6, 9, 7))
    ∷ (9, 99, "??_B@51", (found 3, 7, 4))
    -- as many nodes as a symbol can have: one less than twice its bytes
    ∷ (9, 99, "?$@H", (found 6, 4, 7))
    -- a part opens even where its first byte is missing or wrong, so depth comes before what the bytes give
    ∷ (3, 9, "?@@3P", (refused Deep, 5, 2))
    ∷ (4, 9, "?@@3P", (refused Syntax, 5, 2))
    -- no derivation: a structor's return in a function, the guard's marker, a reference out of range
    ∷ (9, 99, "?f@@YA@XZ", (refused Syntax, 7, 2))
    ∷ (9, 99, "??_B@4IB", (refused Syntax, 5, 2))
    ∷ (3, 9, "?@@3A$2", (refused Syntax, 7, 2))
    -- a bad number: at the byte that does not belong, or at the end
    ∷ (9, 99, "??_B@5A", (refused Syntax, 7, 2))
    ∷ (9, 99, "??_B@5?BQ@", (refused Syntax, 8, 2))
    -- an anonymous namespace's id has a digit; one may have no id
    ∷ (9, 99, "?@?A0x@@", (refused Syntax, 6, 1))
    ∷ (9, 99, "?@?A0x0@@", (found 5, 9, 6))
    ∷ (9, 99, "?@?A@@", (found 5, 6, 6))
    -- no room: a list's entry, then its place
    ∷ (9, 3, "?f@@YAXXZ", (refused Full, 8, 3))
    ∷ (9, 4, "?f@@YAXXZ", (refused Full, 8, 4))
    ∷ []

worked : map (λ c. within c.0 c.1 c.2) cases ≡ map (λ c. c.3) cases
unfolding read_asking shut_asking run body scope_from scope list_end new_param params_from params func_params template_name plain_name special_name unqualified_body nested_of nested_body name_body pointee letter_type plain_type var_type_body symbol_type_of symbol_type_body index_and_one guard_index parse_of read_digit read_number magnitude letters read_unsigned string_from hex_digits_from read_calling_conv read_storage_class read_storage_class_for_return read_guard_marker read_operator type_reference
worked = refl
