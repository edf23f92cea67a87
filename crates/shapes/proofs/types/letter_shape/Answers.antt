-- Assumes nothing.
use Rattle.steps.proofs.Leads.{leads-ret}
use Rattle.grammar.specs.Grammar.{letter_type}
use Rattle.shapes.proofs.types.letter_shape.Goals as goal

pub returns-in-Parameter : goal.returns-in-Parameter
unfolding letter_type
returns-in-Parameter c = rw c.in-Parameter.is c.parameter.ensures

pub returns-in-Union : goal.returns-in-Union
unfolding letter_type
returns-in-Union c = rw c.in-Union.is leads-ret

pub returns-in-Struct : goal.returns-in-Struct
unfolding letter_type
returns-in-Struct c = rw c.in-Struct.is leads-ret

pub returns-in-Class : goal.returns-in-Class
unfolding letter_type
returns-in-Class c = rw c.in-Class.is leads-ret

pub returns-in-Ref : goal.returns-in-Ref
unfolding letter_type
returns-in-Ref c = rw c.in-Ref.is leads-ret

pub returns-in-VolatileRef : goal.returns-in-VolatileRef
unfolding letter_type
returns-in-VolatileRef c = rw c.in-VolatileRef.is leads-ret

pub returns-in-Ptr : goal.returns-in-Ptr
unfolding letter_type
returns-in-Ptr c = rw c.in-Ptr.is leads-ret

pub returns-in-ConstPtr : goal.returns-in-ConstPtr
unfolding letter_type
returns-in-ConstPtr c = rw c.in-ConstPtr.is leads-ret

pub returns-in-VolatilePtr : goal.returns-in-VolatilePtr
unfolding letter_type
returns-in-VolatilePtr c = rw c.in-VolatilePtr.is leads-ret

pub returns-in-ConstVolatilePtr : goal.returns-in-ConstVolatilePtr
unfolding letter_type
returns-in-ConstVolatilePtr c = rw c.in-ConstVolatilePtr.is leads-ret

pub returns-in-Array : goal.returns-in-Array
unfolding letter_type
returns-in-Array c = rw c.in-Array.is leads-ret

pub returns-in-Basic : goal.returns-in-Basic
unfolding letter_type
returns-in-Basic c = rw c.in-Basic.is leads-ret
