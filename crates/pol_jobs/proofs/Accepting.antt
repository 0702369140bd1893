-- Lines that a job accepts, and those that it refuses.
use Rattle.std.proofs.Common.{ℕ, ◌≡◌, List, [], ◌∷◌, ◌++◌, sym, subst, append_assoc, append-nil}
use Rattle.std.specs.List.{flat_map}
use Rattle.pol_io.specs.Pieces.{pieces}
use Rattle.pol_io.proofs.Pieces.{pieces_joined}
use Rattle.pol_jobs.specs.LineWork.{Output, AcceptsBehind, AcceptsLines, line_met}

module _ {Reason : Type 0} (output : Output Reason) where
  -- behind lines that are accepted one more is
  pub accepted_behind : (done : List ℕ) (parts : List (List ℕ)) (piece : List ℕ) → AcceptsBehind output done parts →
      ((reason : Reason) → ¬ output.Refuses (done ++ flat_map (λ part. part) parts) (line_met piece) reason) →
      AcceptsBehind output done (parts ++ piece ∷ [])
  accepted_behind done [] piece accepted next =
      (λ reason. subst (λ done. ¬ output.Refuses done (line_met piece) reason) (append-nil done) (next reason), tt)
  accepted_behind done (part ∷ parts) piece accepted next = (
    accepted.0,
    accepted_behind (done ++ part) parts piece accepted.1
        (λ reason. subst (λ done. ¬ output.Refuses done (line_met piece) reason)
        (sym (append_assoc done part (flat_map (λ part. part) parts))) (next reason)),
  )

  -- where some lines are accepted, each of them is
  each_accepted : (done : List ℕ) (parts : List (List ℕ)) (piece : List ℕ) (later : List (List ℕ)) →
      AcceptsBehind output done (parts ++ piece ∷ later) → (reason : Reason) →
      ¬ output.Refuses (done ++ flat_map (λ part. part) parts) (line_met piece) reason
  each_accepted done [] piece later accepted reason =
      subst (λ done. ¬ output.Refuses done (line_met piece) reason) (sym (append-nil done)) (accepted.0 reason)
  each_accepted done (part ∷ parts) piece later accepted reason =
      subst (λ done. ¬ output.Refuses done (line_met piece) reason)
      (append_assoc done part (flat_map (λ part. part) parts))
      (each_accepted (done ++ part) parts piece later accepted.1 reason)

  -- so where one of them is refused, they aren't
  pub not_accepted : (bytes done piece : List ℕ) (later : List (List ℕ)) (reason : Reason) →
      pieces bytes ≡ pieces done ++ piece ∷ later → output.Refuses done (line_met piece) reason →
      ¬ AcceptsLines output bytes
  not_accepted bytes done piece later reason is_line refuses accepted =
      each_accepted [] (pieces done) piece later (subst (AcceptsBehind output []) is_line accepted) reason
      (subst (λ done. output.Refuses done (line_met piece) reason) (sym (pieces_joined done)) refuses)
