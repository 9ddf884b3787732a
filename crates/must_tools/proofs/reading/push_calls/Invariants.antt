use Rattle.std.proofs.Common.{◌≡◌, ℕ, List, None, string_bytes}
use Rattle.must_format.specs.declared.fault.StreamFault.{StreamFault}
use Rattle.must_codec.specs.Reader.{Failed}
use Rattle.must_codec.specs.Views.{IsOpen}
use Rattle.must_tools.specs.Reading.{Shows}
use Rattle.must_tools.proofs.reading.push_calls.Given as goal

abbrev pub invariant-loop-number : goal.invariant-loop-number
invariant-loop-number g l = record {
  shows : (bytes : List ℕ) → Shows bytes (g.S.Source.left l.fn.src) l.fn.reader (string_bytes l.fn.text) l.fn.first → Shows bytes (g.S.Source.left l.src) l.reader (string_bytes l.text) l.number;
  kept : g.S.Source.faults l.src ≡ g.S.Source.faults l.fn.src;
  any : l.reader.expect ≡ None;
  goes_on : IsOpen l.reader.phase;
  unfailed : (f : StreamFault) → l.reader.phase ≡ Failed f → ⊥;
}
