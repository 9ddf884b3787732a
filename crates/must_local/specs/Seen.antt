-- What the code's communicators that a call makes say.
use Rattle.must_rules.specs.Communicators as rules
use Rattle.must_local.specs.declared.derived.Derived.{Derived}

abbrev pub derived_seen : Derived → rules.Derived
derived_seen d = record { parent = d.parent; class = d.class; members = d.members.now }
