use Rattle.std.proofs.Common.{◌≡◌, Some, List, ◌++◌, ◌∷◌, [], sym, ap, ◌∙◌, rules}
use Rattle.std.specs.BTreeMap as tree
use Rattle.must_call.specs.declared.place.Place.{Place}
use Rattle.must_wait.specs.Shared.{Table}
use Rattle.must_node.specs.declared.keys.WaveKey.{WaveKey}
use Rattle.must_node.specs.declared.sharing.Sharing.{Sharing}
use Rattle.must_node.specs.Sharing.{wave_cmp, calls_of_wave}
use Rattle.must_node.proofs.SharedLists.{grows_list, list_is, shared_more}
use Rattle.must_node.proofs.sharing.Sharing.wave_list.Goals as goal

pub returns-in-Some-clause-list : goal.returns-in-Some-clause-list
returns-in-Some-clause-list c = λ facts s shared.
    let wave = c.in_ok-wave.wave in
    let e : tree.get wave_cmp c.args.self.now.waves wave ≡ Some c.in-Some.number.now = search rules in
    shared wave c.in-Some.number.now e ∙ ap (λ (w : WaveKey). Some (calls_of_wave facts w)) c.in_ok-wave.ensures

pub returns-clause-shared : goal.returns-clause-shared
returns-clause-shared c = λ facts s shared.
    let old = c.args.self.now in
    let new : Sharing = record { rows = c.share.new.self; waves = c.insert.new.self } in
    let places = c.from_vec.result in
    let lists : new.rows.lists ≡ old.rows.lists ++ places ∷ [] = ap (λ (t : Table). t.lists) c.in_ok-number.ensures.ok in
    let needs : new.rows.needs ≡ old.rows.needs = ap (λ (t : Table). t.needs) c.in_ok-number.ensures.ok in
    shared_more old new facts c.in_ok-wave.wave c.in_ok-number.number shared (grows_list old new places needs lists)
    (list_is old new c.in_ok-number.number places c.in_ok-number.ensures.number lists ∙ ap (λ (p : List Place). Some p) (c.from_vec.ensures ∙ c.in_ok-places.ensures facts s) ∙ sym (ap (λ (w : WaveKey). Some (calls_of_wave facts w)) c.in_ok-wave.ensures))
    c.in_ok-insert.ensures.updates.1 c.in_ok-insert.ensures.updates.2

pub returns-clause-list : goal.returns-clause-list
returns-clause-list c = λ facts s shared.
    let old = c.args.self.now in
    let new : Sharing = record { rows = c.share.new.self; waves = c.insert.new.self } in
    let places = c.from_vec.result in
    let lists : new.rows.lists ≡ old.rows.lists ++ places ∷ [] = ap (λ (t : Table). t.lists) c.in_ok-number.ensures.ok in
    list_is old new c.in_ok-number.number places c.in_ok-number.ensures.number lists ∙ ap (λ (p : List Place). Some p) (c.from_vec.ensures ∙ c.in_ok-places.ensures facts s)

pub returns-clause-grows : goal.returns-clause-grows
returns-clause-grows c =
    let old = c.args.self.now in
    let new : Sharing = record { rows = c.share.new.self; waves = c.insert.new.self } in
    grows_list old new c.from_vec.result (ap (λ (t : Table). t.needs) c.in_ok-number.ensures.ok) (ap (λ (t : Table). t.lists) c.in_ok-number.ensures.ok)
