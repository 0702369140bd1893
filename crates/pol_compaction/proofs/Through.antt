-- A plant that is alike to one that is alike to a third.
use Rattle.std.proofs.Common.{◌≡◌, ℕ, List, [], true, not, refl, sym, ◌∙◌, inl, inr, arith}
use Rattle.mtp_codes.specs.Names.{is_among}
use Rattle.pol_history.specs.Looking.{History, past, past_of_batch}
use Rattle.pol_history.specs.Batches.{batches}
use Rattle.pol_history.proofs.Filters.{all_of}
use Rattle.pol_compaction.specs.Alike.{LooksSame, IsSameModule, RunsSame, BatchesAlike, AnswersAlike}
use Rattle.pol_compaction.proofs.Lists.{filter_all}

-- pasts that look the same
looks_through : (first second third : History) → LooksSame first second → LooksSame second third → LooksSame first third
looks_through first second third one two = record {
  stands = record {
    docking = two.stands.docking ∙ one.stands.docking;
    dockings = two.stands.dockings ∙ one.stands.dockings;
    begins = two.stands.begins ∙ one.stands.begins;
    description = two.stands.description ∙ one.stands.description;
  };
  control = λ service. two.control service ∙ one.control service;
  value = λ name. two.value name ∙ one.value name;
}

-- or by which the tag isn't there
module_through : (first second third : History) → IsSameModule first second → IsSameModule second third →
    IsSameModule first third
module_through first second third (inl one) (inl two) = inl (one.0, two.1)
module_through first second third (inl one) (inr two) = inl (one.0, two.stands.docking ∙ one.1)
module_through first second third (inr one) (inl two) = inl (sym one.stands.docking ∙ two.0, two.1)
module_through first second third (inr one) (inr two) = inr (looks_through first second third one two)

-- pasts of a batch that run the same
runs_through : (first second third : History) → RunsSame first second → RunsSame second third → RunsSame first third
runs_through first second third one two = record {
  start = two.start ∙ one.start;
  outcome = two.outcome ∙ one.outcome;
  log = two.log ∙ one.log;
  frozen = two.frozen ∙ one.frozen;
  holding = two.holding ∙ one.holding;
  asked = two.asked ∙ one.asked;
}

-- batches that are alike
batches_through : (gone : List (List ℕ)) (first second third : History) → BatchesAlike gone first second →
    BatchesAlike [] second third → BatchesAlike gone first third
batches_through gone first second third one two = record {
  batches = λ batch out. runs_through (past_of_batch batch first) (past_of_batch batch second)
      (past_of_batch batch third) (one.batches batch out) (two.batches batch refl);
  fresh = λ batch out none. (
    (one.fresh batch out none).0,
    (two.fresh batch refl ((one.batches batch out).start ∙ none)).1,
  );
  started = one.started;
  closed = one.closed;
  same_recipes = two.same_recipes ∙ one.same_recipes;
  holders = λ tag. two.holders tag ∙ one.holders tag;
  watchers = λ tag. two.watchers tag ∙ one.watchers tag;
  fewer_starts = let before = one.fewer_starts in let after = two.fewer_starts in omega arith;
  fewer = let before = one.fewer in let after = two.fewer in omega arith;
  listed = two.listed
      ∙ filter_all (λ batch. not (is_among [] batch)) (batches second)
      (all_of (λ batch. not (is_among [] batch) ≡ true) (λ batch. refl) (batches second))
      ∙ one.listed;
}

-- and plants
pub alike_through : (gone : List (List ℕ)) (first second third : History) → AnswersAlike gone first second →
    AnswersAlike [] second third → AnswersAlike gone first third
alike_through gone first second third one two = record {
  running = batches_through gone first second third one.running two.running;
  modules = λ tag. module_through (past tag first) (past tag second) (past tag third) (one.modules tag)
      (two.modules tag);
  same_tags = two.same_tags ∙ one.same_tags;
}
