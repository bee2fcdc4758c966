use Rattle.std.proofs.Common.{◌∙◌, sym, ap, subst, codes, Err, List, [], Option, map}
use Rattle.std.specs.Prelude.{unwrap_or}
use Rattle.std.proofs.lemmas.Result.{err_from_is_err_and}
use Rattle.clap.specs.Matches.{found_of}
use Rattle.clap.specs.Walk.{Text, rows_of, texts}
use Rattle.clap.proofs.WalkLemmas.{first_value-rows, raw_values-rows}
use Rattle.site_words.proofs.SettingsLaws.{MayBeOptions, count_fits, silence_fits, tick_fits, unwrap_mapped}
use Rattle.site_words.proofs.words.options_of.Goals as goal

pub returns-in_err-tick : goal.returns-in_err-tick
returns-in_err-tick c =
    let p = err_from_is_err_and c.from_residual.result c.from_residual.ensures.1 in
    subst (MayBeOptions (rows_of (found_of c.args.matches.now))) (sym (p.1 ∙ ap Err p.2))
    (c.in_err-tick.ensures.0, λ o valid found. c.in_err-tick.ensures.1 o.tick (tick_fits o.tick valid.tick) found.tick)

pub returns-in_err-silent : goal.returns-in_err-silent
returns-in_err-silent c =
    let p = err_from_is_err_and c.from_residual-in_err-silent.result c.from_residual-in_err-silent.ensures.1 in
    subst (MayBeOptions (rows_of (found_of c.args.matches.now))) (sym (p.1 ∙ ap Err p.2)) (
      c.in_err-silent.ensures.0,
      λ o valid found.
          c.in_err-silent.ensures.1 o.silent (silence_fits o.silent valid.silent) found.silent,
    )

pub returns-in_err-keys : goal.returns-in_err-keys
returns-in_err-keys c =
    let p = err_from_is_err_and c.from_residual-in_err-keys.result c.from_residual-in_err-keys.ensures.1 in
    subst (MayBeOptions (rows_of (found_of c.args.matches.now))) (sym (p.1 ∙ ap Err p.2))
    (c.in_err-keys.ensures.0, λ o valid found. c.in_err-keys.ensures.1 o.keys (count_fits o.keys valid.keys) found.keys)

pub returns-in_err-log : goal.returns-in_err-log
returns-in_err-log c =
    let p = err_from_is_err_and c.from_residual-in_err-log.result c.from_residual-in_err-log.ensures.1 in
    subst (MayBeOptions (rows_of (found_of c.args.matches.now))) (sym (p.1 ∙ ap Err p.2))
    (c.in_err-log.ensures.0, λ o valid found. c.in_err-log.ensures.1 o.log found.log)

pub returns : goal.returns
returns c =
    let f = found_of c.args.matches.now in
    record {
      http = sym (first_value-rows f (codes "http")) ∙ sym c.get_str.ensures;
      hosts = ap (λ (o : Option (List Text)). unwrap_or o [])
          (sym (raw_values-rows f (codes "host")) ∙ sym c.get_strs.ensures)
          ∙ unwrap_mapped (λ s. map (λ v. v.now) s.now) c.get_strs.result _
          ∙ ap (λ s. texts s.now) (sym c.unwrap_or.ensures);
      tick = c.in_ok-tick.ensures;
      silent = c.in_ok-silent.ensures;
      keys = c.in_ok-keys.ensures;
      once = sym (first_value-rows f (codes "once")) ∙ sym c.get_str-2.ensures;
      journal = sym (first_value-rows f (codes "journal")) ∙ sym c.get_str-3.ensures;
      system = sym (first_value-rows f (codes "system")) ∙ sym c.get_str-4.ensures;
      log = c.in_ok-log.ensures;
    }
