-- Assumes nothing.
use Rattle.steps.proofs.Leads.{leads-ret}
use Rattle.grammar.specs.Grammar.{nested_of}
use Rattle.shapes.proofs.names.form_shape.Goals as goal

pub returns-in-Stored : goal.returns-in-Stored
unfolding nested_of
returns-in-Stored c = rw c.in-Stored.is leads-ret

pub returns-in-Template : goal.returns-in-Template
unfolding nested_of
returns-in-Template c = rw c.in-Template.is leads-ret

pub returns-in-Plain : goal.returns-in-Plain
unfolding nested_of
returns-in-Plain c = rw c.in-Plain.is c.plain_shape.ensures
