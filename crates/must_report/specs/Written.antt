-- What the answer of a write of a report says.
use Rattle.std.specs.Prelude.{◌≡◌, ℕ, List, Result, Ok, Err}
use Rattle.must_base.specs.Views.{SinkView, PutsAll, PutsFront}
use Rattle.must_report.specs.declared.fault.OutFault.{OutFault}
use Rattle.must_report.specs.declared.fault.OutFault.TheVariants as fault

-- the whole report was put; or a put failed, and a front of it was put; or memory was short, and nothing was put
abbrev pub Wrote : SinkView → SinkView → List ℕ → Result (Unit {0}) OutFault → Type 0
Wrote old new report (Ok u) = PutsAll old new report
Wrote old new report (Err fault.Write) = PutsFront old new report
Wrote old new report (Err fault.NoMemory) = new ≡ old
