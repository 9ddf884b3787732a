use Rattle.std.proofs.Common.{◌≡◌, ◌≤◌, length}
use Rattle.std.specs.Io.KnownBytes.{Consumes}
use Rattle.must_settings.proofs.file.take_bytes.Given as goal

abbrev pub invariant-loop : goal.invariant-loop
invariant-loop g l = record {
  bytes : Consumes (g.S.Source.left l.fn.src) (g.S.Source.left l.src) l.taken.items;
  same : g.S.Source.faults l.src ≡ g.S.Source.faults l.fn.src;
  count : l.counter ≤ length l.taken.items;
  size : length l.buf ≡ 4096;
}
