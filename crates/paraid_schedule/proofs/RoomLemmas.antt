-- What a period and gear that have their row of bounds give: places within the table, and figures that fit
use Rattle.std.proofs.Common.{◌≡◌, ℕ, ◌+◌, ◌-◌, ◌^◌, ◌<◌, ◌≤◌, List, length, slice_index, subst, sym, arith, Fits, w64}
use Rattle.paraid_base.specs.declared.geometry.Geometry.{Geometry}
use Rattle.paraid_base.specs.Regions.{IsGear}
use Rattle.paraid_record.specs.declared.meta.Setup.{Setup}
use Rattle.paraid_schedule.specs.Schedule.{rise}
use Rattle.paraid_schedule.specs.Bounds.{no_bound, row_start, bound_count, HasRow, AreRight}
use Rattle.paraid_schedule.proofs.RowLemmas.{row_start-end, rows-periods, bound_count-more}

pub gear_low : (g : Geometry) (a : ℕ) → IsGear g a → a ≤ 9
gear_low g a is = omega (arith, g.gears_high a is, g.disks_high)

pub period_low : (t : ℕ) → t < 1024 → t ≤ 1024
period_low t low = omega arith

pub period_next : (t : ℕ) → t < 1024 → t + 1 ≤ 1024
period_next t low = omega arith

pub period_fits : (t : ℕ) → t < 1024 → Fits w64 (t + 1)
period_fits t low = omega arith

pub ups_fit : (ups : ℕ) → ups ≤ 256 → Fits w64 (ups + 1)
ups_fit ups few = omega arith

pub place_fits : (at left ups : ℕ) → at < 2 ^ 32 → left ≤ ups → ups ≤ 256 → Fits w64 (at + left)
place_fits at left ups small low few = omega arith

pub place_fits-one : (at : ℕ) → at < 2 ^ 32 → Fits w64 (at + 1)
place_fits-one at small = omega arith

pub cost_low : (x : ℕ) → x < 2 ^ 40 → x ≤ no_bound
cost_low x small = omega arith

pub cost_fits : (x y : ℕ) → x < 2 ^ 40 → y ≤ no_bound → Fits w64 (x + y)
cost_fits x y small low = omega arith

pub rise_apart : (at ups next : ℕ) → at + (ups + 1) ≤ next → at + 1 + ups ≤ next
rise_apart at ups next low = omega arith

pub rise_within : (next ups n : ℕ) → next + (ups + 1) ≤ n → next + ups ≤ n
rise_within next ups n low = omega arith

pub rise_before : (at ups n : ℕ) → at + (ups + 1) ≤ n → at + 1 + ups ≤ n
rise_before at ups n low = omega arith

pub at_within : (at left ups n : ℕ) → at + (ups + 1) ≤ n → left ≤ ups → at + left < n
at_within at left ups n low few = omega arith

module _ (g : Geometry) (ups : ℕ) (bounds : List ℕ) (t a : ℕ) (row : HasRow g ups bounds t a) where
  pub row_within : (at : ℕ) → at ≡ row_start g ups t a → at + (ups + 1) ≤ length bounds
  row_within at here =
      let end = row_start-end g ups t (t + 1) a row.gear (omega arith) in
      let room = row.room in
      omega (arith, here, end, room)

  pub next_within : (b next : ℕ) → IsGear g b → next ≡ row_start g ups (t + 1) b → next + (ups + 1) ≤ length bounds
  next_within b next gear there =
      let end = row_start-end g ups (t + 1) (t + 1) b gear (omega arith) in
      let room = row.room in
      omega (arith, there, end, room)

  pub rows_apart : (b at next : ℕ) → at ≡ row_start g ups t a → next ≡ row_start g ups (t + 1) b → at + (ups + 1) ≤ next
  rows_apart b at next here there =
      let apart = rows-periods g ups t (t + 1) a b row.gear (omega arith) in
      omega (arith, here, there, apart)

  -- the row stays where bounds change
  pub HasRow-after : (new : List ℕ) → length new ≡ length bounds → ((k : ℕ) → slice_index new k ≤ no_bound) → HasRow g ups new t a
  HasRow-after new same most = record {
    few = row.few;
    period = row.period;
    gear = row.gear;
    room = subst (λ (n : ℕ). bound_count g ups (t + 1) ≤ n) (sym same) row.room;
    most = most;
  }

-- where the bounds are right, each period has its rows
pub HasRow-right : (s : Setup) (demand : List ℕ) (ups : ℕ) (bounds : List ℕ) (t a : ℕ) → AreRight s demand ups bounds → length demand ≤ 1024 → ups ≤ 256 → t < length demand → IsGear s.geometry a → HasRow s.geometry ups bounds t a
HasRow-right s demand ups bounds t a right most few low is = record {
  few = few;
  period = omega (arith, low, most);
  gear = is;
  room = subst (λ (n : ℕ). bound_count s.geometry ups (t + 1) ≤ n) (sym right.count) (bound_count-more s.geometry ups (t + 1) (length demand) (omega (arith, low)));
  most = right.most;
}

-- the period before `t`
pub last_low : (t n : ℕ) → 1 ≤ t → t < n → t - 1 < n
last_low t n some low = omega (arith, some, low)

pub last_next : (t n : ℕ) → 1 ≤ t → n ≡ t → t - 1 + 1 ≡ n
last_next t n some is = omega (arith, some, is)

pub count_low : (t n m : ℕ) → m ≡ t → t < n → m < n
count_low t n m is low = omega (arith, is, low)

pub count_more : (t n m : ℕ) → m ≡ t → n ≡ m + 1 → n ≡ t + 1
count_more t n m is next = omega (arith, is, next)

pub ended : (t n m : ℕ) → m ≡ t → t ≤ n → n ≤ t → m ≡ n
ended t n m is low high = omega (arith, is, low, high)

pub left_after_rise : (a b left now : ℕ) → a < b → now ≡ left - 1 → now ≡ left - rise a b
left_after_rise a b left now low is = omega (arith, low, is)

pub left_after : (a b left now : ℕ) → b ≤ a → now ≡ left → now ≡ left - rise a b
left_after a b left now high is = omega (arith, high, is)

pub left_low : (left by now ups : ℕ) → now ≡ left - by → left ≤ ups → now ≤ ups
left_low left by now ups is few = omega (arith, is, few)

pub none_low : (n : ℕ) → 0 ≤ n
none_low n = omega arith

pub lower_low : (t n : ℕ) → t < n → t ≤ n
lower_low t n low = omega (arith, low)

pub last_within : (n : ℕ) → 1 ≤ n → n - 1 < n
last_within n some = omega (arith, some)
