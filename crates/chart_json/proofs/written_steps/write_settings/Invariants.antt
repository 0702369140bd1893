use Rattle.std.proofs.Common.{◌≡◌, drop, take, map}
use Rattle.std.specs.List.{list_all}
use Rattle.serde_json.specs.View.{view}
use Rattle.chart_json.specs.Sound.{is_setting_sound}
use Rattle.chart_json.specs.Written.{written_setting}
use Rattle.chart_json.proofs.written_steps.write_settings.Given as goal

abbrev pub invariant-loop-setting : goal.invariant-loop-setting
invariant-loop-setting l = record {
  value : map view l.list.items ≡ map written_setting (take l.setting-index l.settings);
  sound : list_all is_setting_sound (drop l.setting-index l.settings) ≡ list_all is_setting_sound l.settings;
}
