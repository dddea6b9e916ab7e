-- What accepted settings and room of a Sauvola call say. Assumes nothing.
use Rattle.std.specs.Prelude.{Ok}
use Prim.Native.Nat.{ℕ, ◌≤◌}
use native.Mathlib.Nat.{pos_of_ne-zero}
use mathlib.Core.Path.{◌≡◌}
use mathlib.Core.Bool.{◌||◌}
use lib.Dec.{ltb, eqb}
use borrow.Author.Tests.{ltb-false, eqb-false}
use Rattle.image.specs.declared.Geometry.{Geometry}
use Rattle.image.specs.LayoutLaws.{neither}
use Rattle.imgproc.specs.declared.ImgProcError.TheVariants.{InvalidConfiguration, WorkspaceTooSmall, WindowTooLarge}
use Rattle.imgproc.specs.declared.threshold.config.SauvolaConfig.{SauvolaConfig}
use Rattle.imgproc.specs.Refusals.{first, ◌then◌, sauvola_settings, tables_room, settings_and_room, table_entries}
use Rattle.imgproc.specs.SauvolaNarrow.{window_limit, largest_window, window_condition, narrow_settings_and_room}
use Rattle.imgproc.specs.Tables.{InRange}
use Rattle.imgproc.specs.RefusalLaws.{both_accepted, not_refused}

-- what accepted settings say, and accepted room
pub in_range : (config : SauvolaConfig) → first (sauvola_settings config) ≡ Ok tt → InRange config
unfolding sauvola_settings
in_range config p =
    let a = eqb config.radius 0 in
    let b = ltb 1000 config.k_milli in
    let c = eqb config.dynamic_range 0 in
    let one = neither a (b || c) (not_refused (a || (b || c)) InvalidConfiguration p) in
    let two = neither b c one.1 in
    record {
      radius_some = pos_of_ne-zero (eqb-false config.radius 0 one.0);
      k_small = ltb-false 1000 config.k_milli two.0;
      range_some = pos_of_ne-zero (eqb-false config.dynamic_range 0 two.1);
    }

pub tables_fit : (g : Geometry) (room : ℕ) → first (tables_room g room) ≡ Ok tt → table_entries g.width g.height ≤ room
tables_fit g room p =
    let short = ltb room (table_entries g.width g.height) in
    ltb-false room (table_entries g.width g.height) (not_refused short WorkspaceTooSmall p)

pub room_for : (config : SauvolaConfig) (g : Geometry) (room : ℕ)
    → first (settings_and_room config g room) ≡ Ok tt
    → InRange config × (table_entries g.width g.height ≤ room)
room_for config g room p =
    let both = both_accepted (sauvola_settings config) (tables_room g room) p in
    (in_range config both.0, tables_fit g room both.1)

-- and of the narrow call
pub narrow_room_for : (config : SauvolaConfig) (g : Geometry) (room : ℕ)
    → first (narrow_settings_and_room config g room) ≡ Ok tt
    → InRange config × (largest_window config.radius g.width g.height ≤ window_limit) × (table_entries g.width g.height ≤ room)
narrow_room_for config g room p =
    let window = window_condition config.radius g.width g.height in
    let largest = largest_window config.radius g.width g.height in
    let both = both_accepted (sauvola_settings config) (window then tables_room g room) p in
    let rest = both_accepted window (tables_room g room) both.1 in (
      in_range config both.0,
      ltb-false window_limit largest (not_refused (ltb window_limit largest) WindowTooLarge rest.0),
      tables_fit g room rest.1,
    )
