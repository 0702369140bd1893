-- Of two plants that are alike the same is told.
use Rattle.std.proofs.Common.{◌≡◌, ℕ, false, List, [], map, Option, None, Some, refl, ap, sym, ◌∙◌, inl, inr}
use Rattle.std.specs.Prelude.{◌&&◌, sum}
use Rattle.std.proofs.Math.Bool.{and-false}
use Rattle.std.proofs.Math.Path.{fun_ext}
use Rattle.mtp_codes.specs.Codes.{command_codes}
use Rattle.mtp_codes.specs.declared.command.Command.{Command}
use Rattle.mtp_assembly.specs.Plain.{PlainVariable}
use Rattle.mtp_desc.specs.Plain.{PlainDescription, PlainService}
use Rattle.pol_events.specs.Events.{desk}
use Rattle.pol_history.specs.Answers.{answer_of}
use Rattle.pol_history.specs.Batches.{holder_of, watchers_of}
use Rattle.pol_history.specs.Looking.{History, past}
use Rattle.pol_history.specs.Modules.{Docking, absent, description_of, docking_of, present_tags}
use Rattle.pol_history.specs.Runs.{history_after}
use Rattle.pol_table.specs.ByteOrder.{in_byte_order}
use Rattle.pol_core.specs.Recipes.{names_in}
use Rattle.pol_compaction.specs.Alike.{AnswersAlike, IsSameModule, LooksSame}
use Rattle.pol_compaction.specs.Lasting.{closed_batches}
use Rattle.pol_compaction.proofs.Sights.{same_view}
use Rattle.pol_overview.specs.Lists.{each_data}
use Rattle.pol_overview.specs.May.{Allows, code_if, goes_out, is_asked, may_of}
use Rattle.pol_overview.specs.Modules.{described_data, described_or_null, module_data, modules_data, service_data}
use Rattle.pol_overview.specs.Modules.{variable_data}
use Rattle.pol_renewed.proofs.Batched.{active_same, batch_same, standing_same, waits_same}
use Rattle.pol_renewed.proofs.Commanded.{command_same}
use Rattle.pol_renewed.proofs.Renewing.{alike_renewed}
use Rattle.pol_renewed.specs.Overviews.{CompactionTellsAlike, TellsSame, nothing_allowed}
use Rattle.pol_renewed.specs.Renewed.{renewed_after, whole_after}

-- ---- commands

-- the same commands would go out where each has the same answer
may_same : (allows : Allows) (whole less : History) (tag service : List ℕ) →
    ((command : Command) → goes_out allows less tag service command ≡ goes_out allows whole tag service command) →
    may_of allows less tag service ≡ may_of allows whole tag service
may_same allows whole less tag service same =
    ap (λ told. sum (map told command_codes)) (fun_ext (λ row. ap (λ goes. code_if goes row.1) (same row.0)))

-- none goes out that isn't allowed
none_goes : (history : History) (tag service : List ℕ) (command : Command) →
    goes_out nothing_allowed history tag service command ≡ false
none_goes history tag service command = and-false (is_asked (answer_of history (desk 0 tag service command)))

-- ---- one module

module _ (allows : Allows) (whole less : History)
    (may : (tag service : List ℕ) → may_of allows less tag service ≡ may_of allows whole tag service)
    (held : (tag : List ℕ) → holder_of less tag ≡ holder_of whole tag)
    (watched : (tag : List ℕ) → watchers_of less tag ≡ watchers_of whole tag) where
  module _ (tag : List ℕ) (looks : LooksSame (past tag whole) (past tag less)) where
    -- a service
    service_same : (service : PlainService) →
        service_data allows less tag service ≡ service_data allows whole tag service
    service_same service = rw (
      may tag service.name,
      looks.stands.docking,
      same_view (past tag whole) (past tag less) looks service.name,
    ) refl

    -- a variable
    variable_same : (variable : PlainVariable) → variable_data less tag variable ≡ variable_data whole tag variable
    variable_same variable = rw (looks.stands.docking, looks.value variable.name) refl

    -- the module, by its description
    described_same : (description : PlainDescription) →
        described_data allows less tag description ≡ described_data allows whole tag description
    described_same description = rw (
      held tag,
      watched tag,
      fun_ext service_same,
      fun_ext variable_same,
      looks.stands.docking,
    ) refl

    -- and as it is
    there_same : (docking : Docking) (description : Option PlainDescription) →
        described_or_null allows less tag docking description ≡ described_or_null allows whole tag docking description
    there_same absent description = refl
    there_same _ None = refl
    there_same _ (Some description) = described_same description

  -- the module of a tag
  module_same : (tag : List ℕ) → IsSameModule (past tag whole) (past tag less) →
      module_data allows less tag ≡ module_data allows whole tag
  module_same tag (inl away) = rw (away.0, away.1) refl
  module_same tag (inr looks) =
      rw (looks.stands.docking, looks.stands.description)
      (there_same tag looks (docking_of whole tag) (description_of whole tag))

-- ---- all

module _ (gone : List (List ℕ)) (whole less : History) (alike : AnswersAlike gone whole less) where
  -- the modules, where the same commands would go out
  modules_same : (allows : Allows) →
      ((tag service : List ℕ) → may_of allows less tag service ≡ may_of allows whole tag service) →
      modules_data allows less ≡ modules_data allows whole
  modules_same allows may =
      ap (λ told. each_data told (in_byte_order (present_tags less)))
      (fun_ext (λ tag. module_same allows whole less may alike.running.holders alike.running.watchers tag
      (alike.modules tag)))
      ∙ ap (λ tags. each_data (module_data allows whole) (in_byte_order tags)) alike.same_tags

  -- so the same is told
  tells_same : TellsSame gone whole less
  tells_same = record {
    modules = λ allows room. modules_same allows (λ tag service. may_same allows whole less tag service
        (λ command. ap (λ answer. is_asked answer && allows tag service command)
        (command_same gone whole less alike room 0 tag service command)));
    without_commands = modules_same nothing_allowed
        (λ tag service. may_same nothing_allowed whole less tag service
        (λ command. none_goes less tag service command ∙ sym (none_goes whole tag service command)));
    recipe_names = ap names_in alike.running.same_recipes;
    batch = λ batch out room. batch_same gone whole less alike batch out room;
    standing = standing_same gone whole less alike;
    active = active_same gone whole less alike;
    waits = waits_same gone whole less alike;
    listed = alike.running.listed;
  }

-- after whatever came later
pub tells_alike : CompactionTellsAlike
tells_alike events later orderly =
    tells_same (closed_batches (history_after [] events)) (whole_after events later) (renewed_after events later)
    (alike_renewed events later orderly)
