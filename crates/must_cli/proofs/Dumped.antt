-- The promises of a dump, from what it answers by its status.
use Rattle.std.proofs.Common.{◌≡◌, ◌⊎◌, ℕ, List, Some, None, refl, ap, subst, ◌∙◌, inl, inr}
use Rattle.must_call.specs.declared.call.Call.{Call}
use Rattle.must_format.specs.declared.fault.StreamFault.{StreamFault}
use Rattle.must_format.specs.declared.fault.StreamFault.TheVariants as fault
use Rattle.must_format.specs.StreamLaws.{stream_is_one}
use Rattle.must_tree.specs.Told.{HasFailed}
use Rattle.must_tools.specs.Reading.{IsComplete, IsRefused}
use Rattle.must_cli.specs.declared.status.Status.{Status}
use Rattle.must_cli.specs.declared.status.Status.TheVariants as status
use Rattle.must_cli.specs.Statuses.{IsRefusal, status_for}
use Rattle.must_cli.specs.Outside.{Output}
use Rattle.must_cli.specs.DumpPromises.{Single, StopsDump, StoppedDump, CutText, DumpAnswers, RefusesStream, PutsComplete, DumpPromises}

-- ---- streams

no_end : (f : StreamFault) → None ≡ Some f → ⊥
no_end f e = cc

same_end : (f g : StreamFault) → Some f ≡ Some g → f ≡ g
same_end f g e = cc

not_both : (bytes : List ℕ) (calls : List Call) (f : StreamFault) → IsComplete bytes calls → IsRefused bytes f → ⊥
not_both bytes calls f complete refused = no_end f (stream_is_one None bytes calls refused.0 None (Some f) complete refused.1).1

one_refusal : (bytes : List ℕ) (f g : StreamFault) → IsRefused bytes f → IsRefused bytes g → f ≡ g
one_refusal bytes f g a b = same_end f g (stream_is_one None bytes a.0 b.0 (Some f) (Some g) a.1 b.1).1

-- ---- what stopped a dump

refused_there : (o : Single) (f : StreamFault) → IsRefusal (status_for f) → StopsDump o f → (bytes : List ℕ) → o.told ≡ Some bytes → IsRefused bytes f
refused_there o (fault.Malformed at c) is stops = stops
refused_there o (fault.Bound at l) is stops = stops
refused_there o fault.Read is stops = absurd is
refused_there o fault.NoMemory is stops = absurd is

failed_there : (o : Single) (f : StreamFault) → status.Outside ≡ status_for f → StopsDump o f → HasFailed o.part
failed_there o (fault.Malformed at c) e stops = absurd cc
failed_there o (fault.Bound at l) e stops = absurd cc
failed_there o fault.Read e stops = stops.0
failed_there o fault.NoMemory e stops = absurd stops

refused_by : (o : Single) (err : Output) (s : Status) → IsRefusal s → (a : StoppedDump o err s) → (bytes : List ℕ) → o.told ≡ Some bytes → IsRefused bytes a.fault
refused_by o err s is a = refused_there o a.fault (subst (λ (t : Status). IsRefusal t) a.answer_is is) a.stops

-- ---- completeness

one_status : (o : Single) (err : Output) (s : Status) → IsRefusal s → StoppedDump o err s → RefusesStream o s
one_status o err s is a = λ bytes f told refused none. inl (a.answer_is ∙ ap status_for (one_refusal bytes a.fault f (refused_by o err s is a bytes told) refused))

no_text : (o : Single) (err : Output) (s : Status) → IsRefusal s → StoppedDump o err s → PutsComplete o s
no_text o err s is a = λ bytes calls told complete none no. absurd (not_both bytes calls a.fault complete (refused_by o err s is a bytes told))

refuses_from : (o : Single) (err : Output) (s : Status) → DumpAnswers o err s → RefusesStream o s
refuses_from o err status.Clean a = λ bytes f told refused none. let d = (a.dumped bytes told).dump in absurd (not_both bytes d.calls f d.complete refused)
refuses_from o err status.Found a = absurd a
refuses_from o err status.Usage a = absurd a
refuses_from o err status.Malformed a = one_status o err status.Malformed tt a
refuses_from o err status.Outside (inl a) = λ bytes f told refused none. absurd (none (failed_there o a.fault a.answer_is a.stops))
refuses_from o err status.Outside (inr a) = λ bytes f told refused none. let d = (a.cut bytes told).dump in absurd (not_both bytes d.calls f d.complete refused)
refuses_from o err status.Bound a = one_status o err status.Bound tt a
refuses_from o err status.Settings a = absurd a
refuses_from o err status.NoMemory a = λ bytes f told refused none. inr refl

puts_from : (o : Single) (err : Output) (s : Status) → DumpAnswers o err s → PutsComplete o s
puts_from o err status.Clean a = λ bytes calls told complete none no. inl refl
puts_from o err status.Found a = absurd a
puts_from o err status.Usage a = absurd a
puts_from o err status.Malformed a = no_text o err status.Malformed tt a
puts_from o err status.Outside (inl a) = λ bytes calls told complete none no. absurd (none (failed_there o a.fault a.answer_is a.stops))
puts_from o err status.Outside (inr a) = λ bytes calls told complete none no. absurd (no a.rose)
puts_from o err status.Bound a = no_text o err status.Bound tt a
puts_from o err status.Settings a = absurd a
puts_from o err status.NoMemory a = λ bytes calls told complete none no. inr refl

-- ---- by the status

refused_from : (o : Single) (err : Output) (s : Status) → DumpAnswers o err s → IsRefusal s → StoppedDump o err s
refused_from o err status.Clean a is = absurd is
refused_from o err status.Found a is = absurd is
refused_from o err status.Usage a is = absurd is
refused_from o err status.Malformed a is = a
refused_from o err status.Outside a is = absurd is
refused_from o err status.Bound a is = a
refused_from o err status.NoMemory a is = absurd is
refused_from o err status.Settings a is = absurd is

outside_from : (o : Single) (err : Output) (s : Status) → DumpAnswers o err s → s ≡ status.Outside → StoppedDump o err s ⊎ CutText o err
outside_from o err status.Clean a e = absurd cc
outside_from o err status.Found a e = absurd a
outside_from o err status.Usage a e = absurd a
outside_from o err status.Malformed a e = absurd cc
outside_from o err status.Outside a e = a
outside_from o err status.Bound a e = absurd cc
outside_from o err status.NoMemory a e = absurd cc
outside_from o err status.Settings a e = absurd a

pub dump_promises : (o : Single) (err : Output) (s : Status) → DumpAnswers o err s → DumpPromises o err s
dump_promises o err s a = record {
  never_found = λ e. subst (λ (t : Status). DumpAnswers o err t) e a;
  never_settings = λ e. subst (λ (t : Status). DumpAnswers o err t) e a;
  whole_text = λ e. subst (λ (t : Status). DumpAnswers o err t) e a;
  refused_stream = refused_from o err s a;
  outside_fault = outside_from o err s a;
  refuses = refuses_from o err s a;
  puts = puts_from o err s a;
}
