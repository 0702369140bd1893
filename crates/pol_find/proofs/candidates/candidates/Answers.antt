-- One more tag is looked at.
use Rattle.std.proofs.Common.{◌≡◌, ◌++◌, ◌∷◌, [], sym, ap, ◌∙◌, arith, append-nil}
use Rattle.std.specs.Prelude.{filter_map, option_map}
use Rattle.std.specs.List.{cons_option}
use Rattle.std.proofs.lemmas.List.{map-append}
use Rattle.std.proofs.lemmas.Option.{slice_get_within}
use Rattle.pol_history.specs.Modules.{present_tags}
use Rattle.pol_table.specs.ByteOrder.{in_byte_order}
use Rattle.pol_table.proofs.ByteOrder.{order_length}
use Rattle.pol_core.specs.Plants.{plant_history}
use Rattle.pol_match.specs.Candidates.{plain_candidate, plain_candidates}
use Rattle.pol_find.specs.Candidates.{candidate_in, candidates_by}
use Rattle.pol_find.proofs.Free.{present_few}
use Rattle.pol_find.proofs.Looked.{cut_end, looked_next}
use Rattle.pol_find.proofs.candidates.candidates.Goals as goal
use Rattle.pol_find.proofs.candidates.candidates.Goals.{in-Some-2+in_ok-push, in_default-2}

pub overflow_add-place : goal.overflow_add-place
overflow_add-place c =
    let history = plant_history c.args.plant.now in
    let tags = in_byte_order (present_tags history) in
    omega (
      arith,
      slice_get_within tags c.loop-tag.place c.in-Some.tag (sym c.in-Some.ensures),
      order_length (present_tags history),
      present_few history c.requires,
    )

pub loop-tag-smaller : goal.loop-tag-smaller
loop-tag-smaller c =
    let tags = in_byte_order (present_tags (plant_history c.args.plant.now)) in
    omega (arith, slice_get_within tags c.loop-tag.place c.in-Some.tag (sym c.in-Some.ensures))

pub loop-tag-preserved : goal.loop-tag-preserved
loop-tag-preserved c =
    let history = plant_history c.args.plant.now in
    let tags = in_byte_order (present_tags history) in
    let found = option_map plain_candidate c.in_ok-candidate.field-0 in
    let before = plain_candidates c.loop-tag.candidates.items in
    let told : plain_candidates c.match-branch-2.candidates.items ≡ before ++ cons_option found [] =
    elim c.match-branch-2.branch [
      | in-Some-2+in_ok-push w ↦
          ap (λ candidates. plain_candidates candidates.items) w.candidates-is
          ∙ ap plain_candidates w.in_ok-push.ensures.items
          ∙ map-append plain_candidate c.loop-tag.candidates.items (w.in-Some-2.candidate ∷ [])
          ∙ ap (λ found. before ++ cons_option (option_map plain_candidate found) []) (sym w.in-Some-2.is)
      | in_default-2 w ↦
          ap (λ candidates. plain_candidates candidates.items) w.candidates-is
          ∙ sym (append-nil before)
          ∙ ap (λ found. before ++ cons_option (option_map plain_candidate found) []) (sym w.in_default-2.is)
    ] in
    record {
      made = looked_next (candidate_in c.args.pool history) tags c.loop-tag.place c.in-Some.tag found before
          (plain_candidates c.match-branch-2.candidates.items) (candidates_by (candidate_in c.args.pool history) history)
          (sym c.in-Some.ensures)
          c.in_ok-candidate.ensures c.loop-tag.invariant.made told;
      low = let within = slice_get_within tags c.loop-tag.place c.in-Some.tag (sym c.in-Some.ensures) in omega arith;
    }

pub returns : goal.returns
returns c =
    let history = plant_history c.args.plant.now in
    let done = plain_candidates c.loop-tag.candidates.items in
    sym (append-nil done)
    ∙ ap (λ left. done ++ filter_map (candidate_in c.args.pool history) left)
    (sym (cut_end (in_byte_order (present_tags history)) c.loop-tag.place (sym c.tag_at.ensures ∙ c.in_default.is)))
    ∙ c.loop-tag.invariant.made
