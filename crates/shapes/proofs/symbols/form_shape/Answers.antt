-- Assumes nothing.
use Rattle.steps.proofs.Leads.{alike-node, leads-alike, leads-ret}
use mathlib.Core.Path.{refl}
use Rattle.grammar.specs.Grammar.{symbol_type_of}
use Rattle.shapes.proofs.symbols.form_shape.Goals as goal

pub returns-in-Variable : goal.returns-in-Variable
unfolding symbol_type_of
returns-in-Variable c = rw c.in-Variable.is leads-ret

pub returns-in-Function : goal.returns-in-Function
unfolding symbol_type_of
returns-in-Function c = rw c.in-Function.is leads-ret

pub returns-in-Member : goal.returns-in-Member
unfolding symbol_type_of
returns-in-Member c = rw c.in-Member.is leads-ret

pub returns-in-ExternC : goal.returns-in-ExternC
unfolding symbol_type_of
returns-in-ExternC c = rw c.in-ExternC.is (leads-alike (alike-node refl refl refl) leads-ret)

pub returns-in-Rtti : goal.returns-in-Rtti
unfolding symbol_type_of
returns-in-Rtti c = rw c.in-Rtti.is (leads-alike (alike-node refl refl refl) leads-ret)

pub returns-in-Nothing : goal.returns-in-Nothing
unfolding symbol_type_of
returns-in-Nothing c = rw c.in-Nothing.is (leads-alike (alike-node refl refl refl) leads-ret)

pub returns-in-VFTable : goal.returns-in-VFTable
unfolding symbol_type_of
returns-in-VFTable c = rw c.in-VFTable.is c.table.ensures

pub returns-in-VBTable : goal.returns-in-VBTable
unfolding symbol_type_of
returns-in-VBTable c = rw c.in-VBTable.is c.table-in-VBTable.ensures
