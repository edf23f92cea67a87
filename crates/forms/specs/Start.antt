-- What a production begins with: its form and the bytes taken. Assumes nothing: these are definitions.
use Rattle.std.specs.Prelude.{ℕ}
use Rattle.forms.specs.declared.start.Start.{Start}

abbrev pub start : {F : Type 0} → F → ℕ → Start F
start f n = record { form = f; taken = n }
