use Rattle.std.proofs.Common.{◌≡◌, ℕ, ◌-◌, min, List, length, take, drop, ◌∙◌, ap, rules}
use Rattle.std.proofs.lemmas.Result.{on_ok_weaker}
use Rattle.pol_disk.specs.Disks.{spliced}
use Rattle.pol_disk.specs.Calls.{deeds_of}
use Rattle.pol_disk.specs.Records.{wrote, undone}
use Rattle.pol_disk.proofs.Deeds.{deeds-push, undone-spliced}
use Rattle.pol_disk.proofs.memory.record_write.Goals as goal

pub returns-else-is_err-clause-ok : goal.returns-else-is_err-clause-ok
returns-else-is_err-clause-ok c =
    let old : List ℕ = c.args.bytes.now.items in
    let piece : List ℕ = c.args.piece.now in
    let over_is : c.in_ok-over.over.items ≡ take (min (length piece) (length old - c.args.at))
    (drop c.args.at old) = search rules in
    on_ok_weaker c.put_over-put.result (λ holds. record {
      over = c.in_ok-over.over.items;
      holds = holds;
      deeds = ap deeds_of c.in_ok-push.ensures.items ∙ deeds-push c.args.calls.now.items _;
      undoes =
          ap (λ (l : List ℕ). undone l (wrote c.args.at (length piece) c.in_ok-over.over.items)) holds
          ∙ ap (λ (l : List ℕ). undone (spliced c.args.at piece old) (wrote c.args.at (length piece) l)) over_is
          ∙ undone-spliced c.args.at piece old c.requires;
    }) c.put_over-put.ensures.ok
