use Rattle.std.proofs.Common.{◌≡◌, ◌-◌, ℕ, List, [], ◌∷◌, ◌++◌, length, rules, set, subst, sym}
use Rattle.pol_texts.specs.Settled.{IsStaged}
use Rattle.pol_texts.proofs.Staged.{staged_more}
use Rattle.pol_texts.proofs.staging.stage.Goals as goal

pub returns-then-size-gt0-clause-staged : goal.returns-then-size-gt0-clause-staged
returns-then-size-gt0-clause-staged c = λ texts text staged is counted.
    let long : c.len-size.result ≡ length c.args.group.now.items = search rules in
    let items : c.extend_from_slice.new.self.items ≡ c.args.group.now.items ++ c.args.behind.now = search rules in
    subst (λ (l : List ℕ). IsStaged (texts ++ text ∷ []) (set l (c.len-size.result - 1) 1)) (sym items)
    (staged_more texts text c.args.group.now.items c.args.behind.now c.len-size.result staged long
    c.if-size-gt0.true is counted)
