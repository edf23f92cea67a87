-- Assumes nothing.
use mathlib.Core.Path.{sym, ap, ◌∙◌}
use lib.ListN.{drop, get_or-eq_default}
use Rattle.leaf_call.specs.Answers.{of_class, of_encoded, of_found, of_leaf, of_span}
use Rattle.leaf_call.specs.Starts.{of_name_start, of_parse_start, of_reference, of_symbol_start, of_type_head, of_type_start}
use Rattle.leaf_call.specs.Replies.{replies, leaf_reply}
use Rattle.leaf_call.proofs.Beyond.{beyond}
use Rattle.leaf_call.proofs.call_leaf.Goals as goal

pub returns-in-0 : goal.returns-in-0
unfolding leaf_reply
returns-in-0 c = rw c.in-0.is (c.of_found.ensures ∙ ap of_found c.get.ensures)

pub returns-in-1 : goal.returns-in-1
unfolding leaf_reply
returns-in-1 c = rw c.in-1.is (c.of_found-in-1.ensures ∙ ap of_found c.read_digit.ensures)

pub returns-in-2 : goal.returns-in-2
unfolding leaf_reply
returns-in-2 c = rw c.in-2.is (c.of_found-in-2.ensures ∙ ap of_found c.read_hex_digit.ensures)

pub returns-in-3 : goal.returns-in-3
unfolding leaf_reply
returns-in-3 c = rw c.in-3.is (c.of_span.ensures ∙ ap of_span c.read_string.ensures)

pub returns-in-4 : goal.returns-in-4
unfolding leaf_reply
returns-in-4 c = rw c.in-4.is (c.of_leaf.ensures ∙ ap of_leaf c.read_number.ensures)

pub returns-in-5 : goal.returns-in-5
unfolding leaf_reply
returns-in-5 c = rw c.in-5.is (c.of_leaf-in-5.ensures ∙ ap of_leaf c.read_unsigned.ensures)

pub returns-in-6 : goal.returns-in-6
unfolding leaf_reply
returns-in-6 c = rw c.in-6.is (c.of_leaf-in-6.ensures ∙ ap of_leaf c.read_guard_number.ensures)

pub returns-in-7 : goal.returns-in-7
unfolding leaf_reply
returns-in-7 c = rw c.in-7.is (c.of_span-in-7.ensures ∙ ap of_span c.read_md5_name.ensures)

pub returns-in-8 : goal.returns-in-8
unfolding leaf_reply
returns-in-8 c = rw (c.in-8.is, ← c.read_hex_digits.ensures) c.of_count.ensures

pub returns-in-9 : goal.returns-in-9
unfolding leaf_reply
returns-in-9 c = rw c.in-9.is (c.of_leaf-in-9.ensures ∙ ap of_leaf c.read_character.ensures)

pub returns-in-10 : goal.returns-in-10
unfolding leaf_reply
returns-in-10 c = rw c.in-10.is (c.of_encoded.ensures ∙ ap of_encoded c.read_encoded_string.ensures)

pub returns-in-11 : goal.returns-in-11
unfolding leaf_reply
returns-in-11 c = rw c.in-11.is (c.of_encoded-in-11.ensures ∙ ap of_encoded c.read_encoded_string-in-11.ensures)

pub returns-in-12 : goal.returns-in-12
unfolding leaf_reply
returns-in-12 c = rw c.in-12.is (c.of_leaf-in-12.ensures ∙ ap of_leaf c.read_calling_conv.ensures)

pub returns-in-13 : goal.returns-in-13
unfolding leaf_reply
returns-in-13 c = rw c.in-13.is (c.of_leaf-in-13.ensures ∙ ap of_leaf c.read_func_class.ensures)

pub returns-in-14 : goal.returns-in-14
unfolding leaf_reply
returns-in-14 c = rw c.in-14.is (c.of_class.ensures ∙ ap of_class c.read_storage_class.ensures)

pub returns-in-15 : goal.returns-in-15
unfolding leaf_reply
returns-in-15 c = rw c.in-15.is (c.of_class-in-15.ensures ∙ ap of_class c.read_qualifier.ensures)

pub returns-in-16 : goal.returns-in-16
unfolding leaf_reply
returns-in-16 c = rw c.in-16.is (c.of_leaf-in-16.ensures ∙ ap of_leaf c.read_storage_class_for_return.ensures)

pub returns-in-17 : goal.returns-in-17
unfolding leaf_reply
returns-in-17 c = rw c.in-17.is (c.of_class-in-17.ensures ∙ ap of_class c.read_func_qualifiers.ensures)

pub returns-in-18 : goal.returns-in-18
unfolding leaf_reply
returns-in-18 c = rw c.in-18.is (c.of_leaf-in-18.ensures ∙ ap of_leaf c.read_string_width.ensures)

pub returns-in-19 : goal.returns-in-19
unfolding leaf_reply
returns-in-19 c = rw c.in-19.is (c.of_leaf-in-19.ensures ∙ ap of_leaf c.read_operator.ensures)

pub returns-in-20 : goal.returns-in-20
unfolding leaf_reply
returns-in-20 c = rw c.in-20.is (c.of_leaf-in-20.ensures ∙ ap of_leaf c.read_guard_marker.ensures)

pub returns-in-21 : goal.returns-in-21
unfolding leaf_reply
returns-in-21 c = rw c.in-21.is (c.of_start.ensures ∙ ap of_type_start c.type_start.ensures)

pub returns-in-22 : goal.returns-in-22
unfolding leaf_reply
returns-in-22 c = rw c.in-22.is (c.of_reference.ensures ∙ ap of_reference c.type_reference.ensures)

pub returns-in-23 : goal.returns-in-23
unfolding leaf_reply
returns-in-23 c = rw c.in-23.is (c.of_start-in-23.ensures ∙ ap of_name_start c.name_start.ensures)

pub returns-in-24 : goal.returns-in-24
unfolding leaf_reply
returns-in-24 c = rw c.in-24.is (c.of_start-in-24.ensures ∙ ap of_parse_start c.parse_start.ensures)

pub returns-in-25 : goal.returns-in-25
unfolding leaf_reply
returns-in-25 c = rw c.in-25.is (c.of_start-in-25.ensures ∙ ap of_symbol_start c.symbol_start.ensures)

pub returns-in-26 : goal.returns-in-26
unfolding leaf_reply
returns-in-26 c = rw c.in-26.is (c.of_type_head.ensures ∙ ap of_type_head c.type_letter.ensures)

pub returns-in_default : goal.returns-in_default
unfolding leaf_reply
returns-in_default c = c.refused.ensures ∙ sym (get_or-eq_default (replies (drop c.args.at c.args.s.now)) _ (beyond 27 c.args.leaf c.in_default.in_default-own.rest))
