use Rattle.std.proofs.Common.{◌≡◌, take}
use Rattle.must_cli.proofs.bind.with_rules.Given as goal

abbrev pub invariant-loop-file : goal.invariant-loop-file
invariant-loop-file l = l.names.items ≡ take l.file-index l.files
