use Rattle.std.proofs.Common.{◌≡◌, ◌++◌, string_bytes, take}
use Rattle.std.specs.List.{flat_map}
use Rattle.must_call.specs.Numbers.{numbers_of}
use Rattle.must_tools.specs.Dump.{number_text}
use Rattle.must_tools.proofs.text.push_numbers.Given as goal

abbrev pub invariant-loop-i : goal.invariant-loop-i
invariant-loop-i l = string_bytes l.text ≡ string_bytes l.fn.text ++ flat_map number_text (take l.i (numbers_of l.call.body))
