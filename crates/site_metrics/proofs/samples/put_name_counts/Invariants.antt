use Rattle.std.proofs.Common.{◌≡◌, ◌≤◌, ◌+◌, ◌*◌, ◌∷◌, ◌++◌, take}
use Rattle.std.specs.List.{flat_map, zip}
use Rattle.site_metrics.specs.Format.{sample_line}
use Rattle.site_metrics.specs.Table.{name_sample}
use Rattle.refusals.specs.Refusals.{refusal_names}
use Rattle.site_metrics.proofs.samples.put_name_counts.Given as goal

abbrev pub invariant-loop-index : goal.invariant-loop-index
invariant-loop-index g l = record {
  text : l.replies.part ≡ l.initial.replies.part ++ flat_map (λ e. 10 ∷ sample_line l.name (name_sample e))
      (take l.index (zip refusal_names l.counts));
  room : l.initial.replies.room ≤ l.replies.room + 96 * l.index;
  kept : l.replies.whole ≡ l.fn.replies.whole;
}
