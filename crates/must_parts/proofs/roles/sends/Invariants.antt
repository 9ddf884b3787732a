use Rattle.std.proofs.Common.{◌≡◌, map, drop}
use Rattle.must_call.specs.Arguments.{seen}
use Rattle.must_rules.specs.Breaches.{sends}
use Rattle.must_parts.proofs.roles.sends.Given as goal

-- no argument before sends
abbrev pub invariant-loop-argument : goal.invariant-loop-argument
invariant-loop-argument l = sends (map seen (drop l.argument-index l.arguments)) ≡ sends (map seen l.arguments)
