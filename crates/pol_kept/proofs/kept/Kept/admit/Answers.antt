use Rattle.std.proofs.Common.{◌≡◌, ℕ, ◌+◌, ◌<◌, ◌^◌, List, [], ◌∷◌, ◌++◌, true, length, sym, ◌∙◌, ap, subst, arith, rules}
use Rattle.std.proofs.lemmas.Bool.{not-false}
use Rattle.pol_kept.specs.Keeping.{IsFit, Keeps}
use Rattle.pol_kept.specs.Names.{WritesBehind}
use Rattle.pol_kept.proofs.Calls.{one_waits, open_again, open_is, writes_long}
use Rattle.pol_kept.proofs.kept.Kept.admit.Goals as goal

pub invariant_of-self-2 : goal.invariant_of-self-2
invariant_of-self-2 g c =
    let d = g.D.Disk in
    let ch = g.C.Chronicle in
    let item : ch.Plain = ch.plain c.args.item in
    let items : List ch.Plain = ch.work.items (ch.state c.self.inside.chronicle) in
    let after : List ch.Plain = ch.work.items (ch.state c.apply.new.self) in
    let disk = c.self.inside.disk in
    let end = c.self.inside.end in
    let waiting = c.self.inside.waiting in
    let text = c.in-Ok.text.items in
    let writes : WritesBehind text c.deref-5.result.now = subst (WritesBehind text) (sym c.deref-5.ensures.value)
    (subst (λ (l : List ℕ). WritesBehind l c.in-Ok-behind_gate.behind.items) c.deref.ensures.value
    c.in-Ok-behind_gate.ensures) in
    let is_new : ch.work.keeps c.in-Ok-apply.answer ≡ true = search (rules, not-false) in
    let told : ch.work.keeps (ch.work.answer_of (ch.state c.self.inside.chronicle) item) ≡ true = ap ch.work.keeps
    (sym c.in-Ok-apply.ensures.answer) ∙ is_new in
    let names : ch.work.IsTextOf items item text = c.in-Ok.ensures told in
    let grown : after ≡ items ++ item ∷ [] = ap ch.work.items c.in-Ok-apply.ensures.after
    ∙ g.met.C.Chronicle.lawful.grows (ch.state c.self.inside.chronicle) item told in
    let was = open_is c.self.inside.closed _ c.if-self.false c.self.invariant in
    let keeps : Keeps ch.work (d.bytes disk) (d.images disk) end c.reserve.new.self.items items waiting =
    subst (λ (l : List ℕ). Keeps ch.work (d.bytes disk) (d.images disk) end l items waiting)
    (sym c.reserve.ensures.items) was.1 in
    let place : end + (length c.deref-2.result.now + length c.deref-3.result.now) < 2 ^ 64 = search rules in
    let same2 = ap length c.deref-2.ensures.value in
    let same3 = ap length c.deref-3.ensures.value in
    let same5 = ap length c.deref-5.ensures.value in
    let reserved = ap length c.reserve.ensures.items in
    open_again c.self.inside.closed (IsFit end (waiting + 1) c.stage.new.group.items
    × Keeps ch.work (d.bytes disk) (d.images disk) end c.stage.new.group.items after (waiting + 1)) (
      record {
        fits = omega (arith, place, same2, same3, same5, reserved, c.stage.ensures.size);
        long =
            omega (
              arith,
              was.0.long,
              reserved,
              c.stage.ensures.size,
              writes_long text c.deref-5.result.now writes,
            );
      },
      one_waits ch.work (d.bytes disk) (d.images disk) end c.reserve.new.self.items c.deref-5.result.now
          c.stage.new.group.items text items after item waiting writes names c.stage.ensures.staged grown keeps,
    )
