-- Every promise is kept. Assumes nothing.
use Rattle.scan.specs.Cases.{number-cases}
use Rattle.promises.specs.Promises.{Promises}
use Rattle.promises.proofs.Grammar as grammar
use Rattle.promises.proofs.Budgets as budgets
use Rattle.promises.proofs.Exactly as exactly
use Rattle.promises.proofs.Left as left
use Rattle.promises.proofs.Alone as alone
use Rattle.promises.proofs.AloneBudgets as writer
use Rattle.promises.proofs.OneAnswer as one
use Rattle.promises.proofs.Told as told
use Rattle.promises.proofs.Flags as flags
use Rattle.promises.proofs.Gated as gated
use Rattle.promises.proofs.Digits as digits
use Rattle.promises.proofs.Memos as memos
use Rattle.promises.proofs.Namespaces as namespaces
use Rattle.promises.proofs.References as references

pub kept : Promises
kept = record {
  read-numbers = told.read-numbers;
  write-numbers = told.write-numbers;
  name-numbers = told.name-numbers;
  reports = told.tells;
  known-words = flags.known-words;
  read-gated = gated.read-gated;
  write-gated = gated.write-gated;
  name-gated = gated.name-gated;
  write-tables = gated.write-tables;
  name-tables = gated.name-tables;
  name-accepts = gated.name-accepts;
  one-read = one.one-read;
  one_written = one.one_written;
  one-named = one.one-named;
  one-part = one.one-part;
  number-cases = number-cases;
  bad-digits = digits.bad-digits;
  answered-leaves = left.answered-leaves;
  syntax-leaves = left.syntax-leaves;
  limit-leaves = left.limit-leaves;
  full-leaves = left.full-leaves;
  nothing_left = left.nothing_left;
  alone-nothing-left = writer.nothing_left;
  alone-answered-leaves = writer.answered-leaves;
  alone-full-leaves = writer.full-leaves;
  zero-counts = told.zero-counts;
  old-contents = left.old-contents;
  accepts = grammar.accepts-exactly;
  rejects = grammar.rejects-exactly;
  templates-hand-back = memos.templates-hand-back;
  digits-recall = memos.digits-recall;
  namespaces-stored = namespaces.namespaces-stored;
  stored-have-ids = namespaces.stored-have-ids;
  ids-apart = namespaces.ids-apart;
  ids-have-digits = namespaces.ids-have-digits;
  lists-end = memos.lists-end;
  references-alike = references.references-alike;
  more-answered = budgets.answered-more;
  more-refused = budgets.refused-more;
  cut-begins = budgets.cut-begins;
  blames = exactly.blames-exactly;
  spills = grammar.spills-exactly;
  suffices = budgets.counts-suffice;
  too_shallow = budgets.too_shallow;
  too_few = budgets.too_few;
  too_small = budgets.too_small;
  alone-accepts = writer.accepts-exactly;
  alone-blames = writer.blames-exactly;
  alone-spills = writer.spills-exactly;
  alone-more-answered = writer.answered-more;
  alone-cut-begins = writer.cut-begins;
  alone-suffices = writer.counts-suffice;
  alone-too-shallow = writer.too_shallow;
  alone-too-small = writer.too_small;
  alone-agrees = alone.alone-agrees;
}
