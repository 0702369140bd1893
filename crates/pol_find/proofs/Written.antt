-- How much of a finder's output was written.
use Rattle.std.proofs.Common.{◌<◌, ℕ, List, [], ◌∷◌, ◌++◌, length, refl, sym, ◌∙◌, ap, arith, append_assoc, append-nil}
use Rattle.std.proofs.Common.{length-append}
use Rattle.std.specs.Prelude.{Option}
use Rattle.std.specs.Io.KnownBytes.{Appends}
use Rattle.pol_io.proofs.Known.{Appends_trans}
use Rattle.pol_jobs.specs.Written.{Closes, ClosesPart}
use Rattle.pol_jobs.proofs.Written.{none_written}
use Rattle.pol_match.specs.Fits.{PlainCandidate}
use Rattle.pol_find.specs.Found.{Follows, Tells, TellsEach}
use Rattle.pol_find.specs.Recipes.{PlainRecipe}

-- a text that can stand there
abbrev pub HasText : (List ℕ → Type 0) → Type 0
HasText May = (text : List ℕ) × May text

-- ---- two parts, one behind the other

module _ (First Second : List ℕ → Type 0) where
  -- both were written
  pub both_written : (held between held' : Option (List ℕ)) → Closes First held between → Closes Second between held' →
      Closes (Follows First Second) held held'
  both_written held between held' first second =
      record {
        text = first.text ++ second.text;
        may = record {
          first = first.text;
          second = second.text;
          one = first.may;
          other = second.may;
          is = refl;
        };
        appended = Appends_trans held between held' first.text second.text first.appended second.appended;
      }

  -- the first was begun
  pub first_begun : (held held' : Option (List ℕ)) → ClosesPart First held held' → HasText Second →
      ClosesPart (Follows First Second) held held'
  first_begun held held' part second =
      record {
        text = part.text ++ second.0;
        may = record { first = part.text; second = second.0; one = part.may; other = second.1; is = refl };
        part = record {
          some = record {
            written = part.part.some.written;
            more = part.part.some.more ++ second.0;
            appended = part.part.some.appended;
            front = sym (append_assoc part.part.some.written part.part.some.more second.0)
                ∙ ap (λ text. text ++ second.0) part.part.some.front;
          };
          proper = rw (length-append part.part.some.more second.0)
              (let more = part.part.proper in omega arith);
        };
      }

  -- the first was written, and the second begun
  pub second_begun : (held between held' : Option (List ℕ)) → Closes First held between →
      ClosesPart Second between held' → ClosesPart (Follows First Second) held held'
  second_begun held between held' first part =
      record {
        text = first.text ++ part.text;
        may = record { first = first.text; second = part.text; one = first.may; other = part.may; is = refl };
        part = record {
          some = record {
            written = first.text ++ part.part.some.written;
            more = part.part.some.more;
            appended = Appends_trans held between held' first.text part.part.some.written first.appended
                part.part.some.appended;
            front = append_assoc first.text part.part.some.written part.part.some.more
                ∙ ap (λ text. first.text ++ text) part.part.some.front;
          };
          proper = part.part.proper;
        };
      }

-- before anything is written of a text that has some byte, a part of it is: none
pub none_begun : (May : List ℕ → Type 0) (held : Option (List ℕ)) (text : List ℕ) → May text → 0 < length text →
    ClosesPart May held held
none_begun May held text may some = record { text = text; may = may; part = none_written held text some }

-- ---- a line for each recipe

-- what was written tells all but the rest of the recipes: with what tells the rest behind it, it tells them all
pub record ToldSoFar (candidates : List PlainCandidate) (recipes rest : List PlainRecipe)
    (held held' : Option (List ℕ)) : Type 0 where
  pub written : List ℕ
  pub appended : Appends held held' written
  pub up_to : (text : List ℕ) → TellsEach candidates rest text → TellsEach candidates recipes (written ++ text)

module _ (candidates : List PlainCandidate) (recipes : List PlainRecipe) where
  -- one more recipe is told
  pub told_next : (held between held' : Option (List ℕ)) (recipe : PlainRecipe) (rest : List PlainRecipe) →
      ToldSoFar candidates recipes (recipe ∷ rest) held between → Closes (Tells candidates recipe) between held' →
      ToldSoFar candidates recipes rest held held'
  told_next held between held' recipe rest so_far line =
      record {
        written = so_far.written ++ line.text;
        appended = Appends_trans held between held' so_far.written line.text so_far.appended line.appended;
        up_to = λ text tells.
            rw (append_assoc so_far.written line.text text)
            (so_far.up_to (line.text ++ text) (record {
              first = line.text;
              second = text;
              one = line.may;
              other = tells;
              is = refl;
            }));
      }

  -- all are
  pub told_all : (held held' : Option (List ℕ)) → ToldSoFar candidates recipes [] held held' →
      Closes (TellsEach candidates recipes) held held'
  told_all held held' so_far =
      record {
        text = so_far.written ++ [];
        may = so_far.up_to [] refl;
        appended = rw (append-nil so_far.written) so_far.appended;
      }

  -- one more is begun
  pub told_part : (held between held' : Option (List ℕ)) (recipe : PlainRecipe) (rest : List PlainRecipe) →
      ToldSoFar candidates recipes (recipe ∷ rest) held between →
      ClosesPart (Tells candidates recipe) between held' → HasText (TellsEach candidates rest) →
      ClosesPart (TellsEach candidates recipes) held held'
  told_part held between held' recipe rest so_far begun others =
      let part = first_begun (Tells candidates recipe) (TellsEach candidates rest) between held' begun others in
      record {
        text = so_far.written ++ part.text;
        may = so_far.up_to part.text part.may;
        part = record {
          some = record {
            written = so_far.written ++ part.part.some.written;
            more = part.part.some.more;
            appended = Appends_trans held between held' so_far.written part.part.some.written so_far.appended
                part.part.some.appended;
            front = append_assoc so_far.written part.part.some.written part.part.some.more
                ∙ ap (λ text. so_far.written ++ text) part.part.some.front;
          };
          proper = part.part.proper;
        };
      }
