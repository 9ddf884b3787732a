-- What a side of a call says of a message, by what the fields of the call are for.
use Rattle.std.specs.Prelude.{ℕ, ℤ, if◌then◌else◌, Option, Some, None}
use Rattle.must_call.specs.declared.field.Side.{Side}
use Rattle.must_call.specs.declared.field.Side.TheVariants.{Receive}
use Rattle.must_call.specs.declared.field.Int.TheVariants as int
use Rattle.must_call.specs.declared.field.Field.{Field}
use Rattle.must_call.specs.declared.field.Field.TheVariants.{Buffer, I32}
use Rattle.must_call.specs.declared.body.Body.{Body}
use Rattle.must_call.specs.Values.{Value}
use Rattle.must_call.specs.Kinds.{kind_of}
use Rattle.must_call.specs.Bodies.{inputs_of}
use Rattle.must_rules.specs.Significant.{first_told}
use Rattle.must_rules.specs.Breaches.{part_in}
use Rattle.must_rules.specs.UsableParts.{serves, type_in, peer_in}
use Rattle.must_rules.specs.Operations.{tag_in, is_probe}
use Rattle.must_begin.specs.declared.terms.Terms.{Terms}
use Rattle.must_begin.specs.declared.terms.Probed.{Probed}

-- the number of elements of a side's buffer
abbrev pub count_in : Side → (f : Field) → Value f → Option ℤ
count_in s (I32 (int.Count t)) z = if serves t s then Some z else None
count_in s _ _ = None

abbrev pub terms_by : (part : ℕ) → (peer tag count : Option ℤ) → (dtype : Option ℕ) → Option Terms
terms_by part (Some peer) (Some tag) (Some count) (Some dtype) = Some (record { part = part; peer = peer; tag = tag; count = count; dtype = dtype })
terms_by part _ _ _ _ = None

-- what a side of a call sends or receives, where the call names another end for that side and has a buffer there
abbrev pub terms_of : Body → Side → Option Terms
terms_of b s =
    terms_by (part_in b (Buffer s)) (first_told (peer_in s) (inputs_of b)) (first_told (tag_in s) (inputs_of b)) (first_told (count_in s) (inputs_of b)) (first_told (type_in s) (inputs_of b))

abbrev pub probed_by : (source tag : Option ℤ) → Option Probed
probed_by (Some source) (Some tag) = Some (record { source = source; tag = tag })
probed_by _ _ = None

-- what a probe names
abbrev pub probed_of : Body → Option Probed
probed_of b = if is_probe (kind_of b) then probed_by (first_told (peer_in Receive) (inputs_of b)) (first_told (tag_in Receive) (inputs_of b)) else None
