use Rattle.std.proofs.Common.{◌∙◌, ℕ, length, List, Some, sym, ap}
use Rattle.std.specs.Option.{option_copied, option_map}
use Rattle.must_call.specs.declared.place.Place.{Place}
use Rattle.must_wait.specs.CodedWay.{places_or}
use Rattle.must_wait.specs.Shared.{coded_way, number_at}
use Rattle.must_wait.proofs.CodedRows.{way_left, way_read}
use Rattle.must_wait.proofs.coded.own_way.Goals as goal

pub returns-in-Some : goal.returns-in-Some
returns-in-Some c =
    let t = c.args.rows.now in
    let n = number_at t.numbers c.args.rank c.args.call c.args.way in
    let is = sym c.places_at.ensures ∙ ap option_copied c.in-Some.is in
    ap (λ (r : ℕ). Some (places_or r c.items.result.now c.gate_of.result)) c.ranks.ensures ∙ ap (λ g. Some (places_or (length t.needs) c.items.result.now g)) c.gate_of.ensures
    ∙ ap Some (way_read (length t.needs) c.items.result.now n) ∙ ap (λ (l : List Place). Some (coded_way (length t.needs) l n)) c.items.ensures
    ∙ sym (way_left t c.args.rank c.args.call c.args.way c.requires ∙ ap (option_map (λ places. coded_way (length t.needs) places n)) is)

pub returns-in-None : goal.returns-in-None
returns-in-None c =
    let t = c.args.rows.now in
    let n = number_at t.numbers c.args.rank c.args.call c.args.way in
    let is = sym c.places_at.ensures ∙ ap option_copied c.in-None.is in
    sym (way_left t c.args.rank c.args.call c.args.way c.requires ∙ ap (option_map (λ places. coded_way (length t.needs) places n)) is)
