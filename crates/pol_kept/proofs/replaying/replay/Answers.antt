use Rattle.std.proofs.Common.{◌≡◌, ℕ, ◌+◌, ◌-◌, ◌<◌, List, [], ◌∷◌, ◌++◌, length, take, drop, sym, ◌∙◌, ap, subst, arith, length-append}
use Rattle.std.proofs.lemmas.List.{take_rest}
use Rattle.pol_kept.specs.Names.{IsRecord}
use Rattle.pol_kept.specs.Stands.{BeginsWithItems, IsBroken}
use Rattle.pol_kept.proofs.Replays.{replay_more, replay_closed, replay_breaks}
use Rattle.pol_kept.proofs.replaying.replay.Goals as goal

pub returns-in-Closed-clause-replayed : goal.returns-in-Closed-clause-replayed
returns-in-Closed-clause-replayed g c =
    let ch = g.C.Chronicle in
    let bytes : List ℕ = c.args.bytes.now in
    let slice : List ℕ = take (length bytes - c.record.at) (drop c.record.at bytes) in
    let rest_is : slice ≡ drop c.record.at bytes = take_rest bytes c.record.at in
    let closed : (behind : List ℕ) × (slice ≡ 0 ∷ behind) = rw c.in-Closed.is at c.in_ok-next_record.ensures.is in
    replay_closed ch.work c.record.at bytes closed.0 (ch.work.items (ch.state c.record.chronicle))
    c.record.invariant.0 c.record.invariant.1 (sym rest_is ∙ closed.1)

pub returns-in-Broken-clause-breaks : goal.returns-in-Broken-clause-breaks
returns-in-Broken-clause-breaks g c =
    let ch = g.C.Chronicle in
    let items : List ch.Plain = ch.work.items (ch.state c.record.chronicle) in
    let bytes : List ℕ = c.args.bytes.now in
    let slice : List ℕ = take (length bytes - c.record.at) (drop c.record.at bytes) in
    let found : IsBroken ch.work items slice = rw c.in-Broken.is at c.in_ok-next_record.ensures.is in
    replay_breaks ch.work c.record.at bytes items c.record.invariant.0
    (subst (IsBroken ch.work items) (take_rest bytes c.record.at) found)

pub record-preserved : goal.record-preserved
record-preserved g c =
    let ch = g.C.Chronicle in
    let items : List ch.Plain = ch.work.items (ch.state c.record.chronicle) in
    let item : ch.Plain = ch.plain c.in-Record.item in
    let text : List ℕ = c.in-Record.text.now in
    let bytes : List ℕ = c.args.bytes.now in
    let rest : List ℕ = drop c.record.at bytes in
    let slice : List ℕ = take (length bytes - c.record.at) rest in
    let sliced : IsRecord ch.work ch.plain items slice item text × (length items < ch.work.most) =
    rw c.in-Record.is at c.in_ok-next_record.ensures.is in
    let found : IsRecord ch.work ch.plain items rest item text =
    subst (λ (l : List ℕ). IsRecord ch.work ch.plain items l item text) (take_rest bytes c.record.at) sliced.0 in
    let after : List ch.Plain = ch.work.items (ch.state c.take_item.new.chronicle) in
    let grown : after ≡ items ++ item ∷ [] = c.in_ok-take_item-in-Record.ensures in
    let more = replay_more ch.work c.record.at bytes text found.behind items item c.record.invariant.0 found.begins
    found.names in (
      subst (λ (es : List ch.Plain). BeginsWithItems ch.work (c.record.at + (9 + length text)) bytes es) (sym grown)
          more,
      omega (arith, ap length grown, length-append items (item ∷ []), sliced.1),
    )
