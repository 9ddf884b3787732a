use Rattle.std.proofs.Common.{List, ◌++◌, ◌∷◌, []}
use Rattle.must_p2p.specs.declared.item.MsgItem.{MsgItem}
use Rattle.must_p2p.specs.declared.side.Side.TheVariants.{Send, Receive}
use Rattle.must_p2p.specs.declared.channels.Channels.{Channels}
use Rattle.must_p2p.specs.Items.{class_of, Orderly}
use Rattle.must_p2p.specs.Standing.{kept, StandsFor}
use Rattle.must_p2p.proofs.Put.{Behind, after_put, at_call, found_of, rows_of}
use Rattle.must_p2p.proofs.Steps.{on_ok}
use Rattle.must_p2p.proofs.channels.Channels.put_message.Goals as goal

behind : (c : goal.After-put_in) (items : List MsgItem) → StandsFor c.args.self.now items → Orderly (items ++ c.args.item ∷ []) → Behind c.args.self.now.names c.number.new.self c.args.item.name c.in_ok-name.name
behind c items st o = record { number = c.in_ok-name.ensures.number items st.knows o; others = c.number.ensures.others; old_or_new = c.in_ok-name.ensures.old_or_new items st.knows o }

pub returns-clause-put : goal.returns-clause-put
returns-clause-put c = λ items st o.
    let x = c.args.item in
    let new : Channels = record { alloc = c.args.self.now.alloc; names = c.number.new.self; queues = c.put_in.new.queues } in
    after_put c.put_in.result c.args.self.now new items x c.in_ok-name.name c.key-key.result c.into_waiting.result c.key-key.ensures c.into_waiting.ensures st (behind c items st o) (c.in_ok-name.ensures.knows items st.knows o)
    c.put_in.ensures.here c.put_in.ensures.others

pub returns-clause-found : goal.returns-clause-found
returns-clause-found c = λ items st o.
    let x = c.args.item in
    let at = at_call c.args.self.now c.number.new.self items x c.in_ok-name.name c.key-key.result c.key-key.ensures st (behind c items st o) in
    found_of c.put_in.result items x c.into_waiting.result c.into_waiting.ensures o (c.put_in.ensures.found (kept (class_of x) Send items) (kept (class_of x) Receive items) at)

pub returns-clause-rows : goal.returns-clause-rows
returns-clause-rows c = λ items st o.
    let x = c.args.item in
    let at = at_call c.args.self.now c.number.new.self items x c.in_ok-name.name c.key-key.result c.key-key.ensures st (behind c items st o) in
    on_ok c.put_in.result (c.put_in.ensures.rows (kept (class_of x) Send items) (kept (class_of x) Receive items) at) (rows_of c.args.out.now c.put_in.new.out items x c.into_waiting.result c.into_waiting.ensures o)
