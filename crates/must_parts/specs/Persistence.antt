-- What a call does with persistent requests.
use Rattle.std.specs.Prelude.{◌≡◌, true, false}
use Rattle.must_call.specs.declared.body.Body.{Body}
use Rattle.must_rules.specs.Making.{is_persistent_kind}
use Rattle.must_rules.specs.Starts.{is_start_kind}
use Rattle.must_parts.specs.declared.buffers.Persistence.{Persistence}
use Rattle.must_parts.specs.declared.buffers.Persistence.TheVariants.{Starts, Makes, Neither}

abbrev pub IsPersistence : Body → Persistence → Type 0
IsPersistence b Starts = is_start_kind b ≡ true
IsPersistence b Makes = (is_persistent_kind b ≡ true) × (is_start_kind b ≡ false)
IsPersistence b Neither = is_persistent_kind b ≡ false
