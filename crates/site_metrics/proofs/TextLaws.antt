-- Lines with a line feed before each, and with one after each.
use Rattle.std.proofs.Common.{◌≡◌, ℕ, List, [], ◌∷◌, ◌++◌, drop, map, refl, ap, ◌∙◌, sym, append_assoc, append-nil}
use Rattle.std.specs.List.{flat_map, zip}
use Rattle.std.proofs.lemmas.List.{flat_map_more}
use Rattle.std.proofs.lemmas.List.Concat.{flat_map-append}
use Rattle.std.proofs.lemmas.List.Folds.{flat_map-map}
use Rattle.site_metrics.specs.declared.metrics.Metrics.{Metrics}
use Rattle.site_metrics.specs.declared.metrics.PeerMetrics.{PeerMetrics}
use Rattle.site_metrics.specs.Format.{Sample, Family, help_line, type_line, sample_line, lines_of, exposition}
use Rattle.site_metrics.specs.Format.{led_lines}
use Rattle.site_metrics.specs.Table.{alone, peer_sample, by_peer, name_sample, by_name, peer_metric, rights_metrics}
use Rattle.site_metrics.specs.Table.{state_metrics, client_metrics, log_metrics, line_metrics, journal_metrics, all_metrics}
use Rattle.site_metrics.specs.Table.{metrics_text}
use Rattle.site_metrics.specs.PeerValues.{peer_value}
use Rattle.site_metrics.specs.declared.peer_value.PeerValue.{PeerValue}
use Rattle.site_metrics.specs.declared.peer_value.PeerValue.TheVariants.{Applied, Buffering, Held, Receiving, Sending, Silent}
use Rattle.site_metrics.specs.declared.peer_value.PeerValue.TheVariants.{Lines, Refused, Dropped, Waiting, WentBack}
use Rattle.refusals.specs.Refusals.{refusal_names}

abbrev led : List (List ℕ) → List ℕ
led lines = flat_map (λ (line : List ℕ). 10 ∷ line) lines

abbrev ended : List (List ℕ) → List ℕ
ended lines = flat_map (λ (line : List ℕ). line ++ 10 ∷ []) lines

led_ended : (lines : List (List ℕ)) → led lines ++ 10 ∷ [] ≡ 10 ∷ ended lines
led_ended [] = refl
led_ended (line ∷ lines) =
    ap (λ (t : List ℕ). 10 ∷ t) (append_assoc line (led lines) (10 ∷ [])
    ∙ ap (λ (t : List ℕ). line ++ t) (led_ended lines) ∙ sym (append_assoc line (10 ∷ []) (ended lines)))

led_families : (families : List Family) → flat_map led_lines families ≡ led (flat_map lines_of families)
unfolding led_lines
led_families [] = refl
led_families (family ∷ families) =
    ap (λ (t : List ℕ). led (lines_of family) ++ t) (led_families families)
    ∙ sym (flat_map-append (λ (line : List ℕ). 10 ∷ line) (lines_of family) (flat_map lines_of families))

text_ends : (families : List Family) → flat_map led_lines families ++ 10 ∷ [] ≡ 10 ∷ exposition families
text_ends families = ap (λ (t : List ℕ). t ++ 10 ∷ []) (led_families families) ∙ led_ended (flat_map lines_of families)

-- with the first line feed moved to the end
pub moved : (family : Family) (families : List Family)
    → drop 1 (flat_map led_lines (family ∷ families)) ++ 10 ∷ [] ≡ exposition (family ∷ families)
unfolding led_lines
moved family families = ap (drop 1) (text_ends (family ∷ families))

pub more_families : (family : Family) (families others : List Family)
    → drop 1 (flat_map led_lines (family ∷ families)) ++ flat_map led_lines others
    ≡ drop 1 (flat_map led_lines ((family ∷ families) ++ others))
unfolding led_lines
more_families family families others = ap (drop 1) (sym (flat_map-append led_lines (family ∷ families) others))

-- one more metric
module _ (text : List ℕ) where
  one : (a : Family) → text ++ led_lines a ≡ text ++ flat_map led_lines (a ∷ [])
  one a = ap (λ (t : List ℕ). text ++ t) (sym (append-nil (led_lines a)))

  more : (before : List ℕ) (families : List Family) (a : Family) → before ≡ text ++ flat_map led_lines families
      → before ++ led_lines a ≡ text ++ flat_map led_lines (families ++ a ∷ [])
  more before families a h = ap (λ (t : List ℕ). t ++ led_lines a) h ∙ flat_map_more led_lines text families a

  three : (a b c : Family)
      → ((text ++ led_lines a) ++ led_lines b) ++ led_lines c ≡ text ++ flat_map led_lines (a ∷ b ∷ c ∷ [])
  three a b c = more _ (a ∷ b ∷ []) c (more _ (a ∷ []) b (one a))

  pub four : (a b c d : Family) → (((text ++ led_lines a) ++ led_lines b) ++ led_lines c) ++ led_lines d
      ≡ text ++ flat_map led_lines (a ∷ b ∷ c ∷ d ∷ [])
  four a b c d = more _ (a ∷ b ∷ c ∷ []) d (three a b c)

  pub five : (a b c d e : Family)
      → ((((text ++ led_lines a) ++ led_lines b) ++ led_lines c) ++ led_lines d) ++ led_lines e
      ≡ text ++ flat_map led_lines (a ∷ b ∷ c ∷ d ∷ e ∷ [])
  five a b c d e = more _ (a ∷ b ∷ c ∷ d ∷ []) e (four a b c d)

  pub six : (a b c d e f : Family)
      → (((((text ++ led_lines a) ++ led_lines b) ++ led_lines c) ++ led_lines d) ++ led_lines e) ++ led_lines f
      ≡ text ++ flat_map led_lines (a ∷ b ∷ c ∷ d ∷ e ∷ f ∷ [])
  six a b c d e f = more _ (a ∷ b ∷ c ∷ d ∷ e ∷ []) f (five a b c d e)

  -- the same if the first line feed is left out
  first_one : (a : Family) → text ++ drop 1 (led_lines a) ≡ text ++ drop 1 (flat_map led_lines (a ∷ []))
  first_one a = ap (λ (t : List ℕ). text ++ drop 1 t) (sym (append-nil (led_lines a)))

  dropped : (a : Family) (families : List Family) (b : Family)
      → drop 1 (flat_map led_lines (a ∷ families)) ++ led_lines b
      ≡ drop 1 (flat_map led_lines (a ∷ (families ++ b ∷ [])))
  unfolding led_lines
  dropped a families b = ap (drop 1) (flat_map_more led_lines [] (a ∷ families) b)

  first_more : (before : List ℕ) (a : Family) (families : List Family) (b : Family)
      → before ≡ text ++ drop 1 (flat_map led_lines (a ∷ families))
      → before ++ led_lines b ≡ text ++ drop 1 (flat_map led_lines (a ∷ (families ++ b ∷ [])))
  first_more before a families b h =
      ap (λ (t : List ℕ). t ++ led_lines b) h
      ∙ append_assoc text (drop 1 (flat_map led_lines (a ∷ families))) (led_lines b)
      ∙ ap (λ (t : List ℕ). text ++ t) (dropped a families b)

  first_three : (a b c : Family)
      → ((text ++ drop 1 (led_lines a)) ++ led_lines b) ++ led_lines c
      ≡ text ++ drop 1 (flat_map led_lines (a ∷ b ∷ c ∷ []))
  first_three a b c = first_more _ a (b ∷ []) c (first_more _ a [] b (first_one a))

  pub first_seven : (a b c d e f g : Family)
      → ((((((text ++ drop 1 (led_lines a)) ++ led_lines b) ++ led_lines c) ++ led_lines d) ++ led_lines e)
      ++ led_lines f) ++ led_lines g
      ≡ text ++ drop 1 (flat_map led_lines (a ∷ b ∷ c ∷ d ∷ e ∷ f ∷ g ∷ []))
  first_seven a b c d e f g =
      first_more _ a (b ∷ c ∷ d ∷ e ∷ f ∷ []) g (first_more _ a (b ∷ c ∷ d ∷ e ∷ []) f
      (first_more _ a (b ∷ c ∷ d ∷ []) e (first_more _ a (b ∷ c ∷ []) d (first_three a b c))))

  parts : (family : Family) (a b c d e f : List Family)
      → (((((text ++ drop 1 (flat_map led_lines (family ∷ a))) ++ flat_map led_lines b) ++ flat_map led_lines c)
      ++ flat_map led_lines d) ++ flat_map led_lines e) ++ flat_map led_lines f
      ≡ text ++ drop 1 (flat_map led_lines ((family ∷ a) ++ (b ++ (c ++ (d ++ (e ++ f))))))
  parts family a b c d e f =
      let split : flat_map led_lines (b ++ (c ++ (d ++ (e ++ f))))
      ≡ flat_map led_lines b ++ (flat_map led_lines c ++ (flat_map led_lines d
      ++ (flat_map led_lines e ++ flat_map led_lines f))) =
      flat_map-append led_lines b (c ++ (d ++ (e ++ f))) ∙ ap (λ (t : List ℕ). flat_map led_lines b ++ t)
      (flat_map-append led_lines c (d ++ (e ++ f))
      ∙ ap (λ (t : List ℕ). flat_map led_lines c ++ t) (flat_map-append led_lines d (e ++ f)
      ∙ ap (λ (t : List ℕ). flat_map led_lines d ++ t) (flat_map-append led_lines e f))) in
      together (drop 1 (flat_map led_lines (family ∷ a))) (flat_map led_lines b) (flat_map led_lines c)
      (flat_map led_lines d) (flat_map led_lines e) (flat_map led_lines f)
      ∙ ap (λ (t : List ℕ). text ++ (drop 1 (flat_map led_lines (family ∷ a)) ++ t)) (sym split)
      ∙ ap (λ (t : List ℕ). text ++ t) (more_families family a (b ++ (c ++ (d ++ (e ++ f))))) where
        together : (a b c d e f : List ℕ)
            → (((((text ++ a) ++ b) ++ c) ++ d) ++ e) ++ f ≡ text ++ (a ++ (b ++ (c ++ (d ++ (e ++ f)))))
        together a b c d e f = simp append_assoc

  pub all_parts : (m : Metrics) (peers : List PeerMetrics)
      → (((((text ++ drop 1 (flat_map led_lines (rights_metrics m))) ++ flat_map led_lines (state_metrics m))
      ++ flat_map led_lines (client_metrics m)) ++ flat_map led_lines (log_metrics peers))
      ++ flat_map led_lines (line_metrics peers)) ++ flat_map led_lines (journal_metrics m.journal)
      ≡ text ++ drop 1 (flat_map led_lines (all_metrics m peers))
  all_parts m peers = parts _ (drop 1 (rights_metrics m)) (state_metrics m) (client_metrics m) (log_metrics peers)
      (line_metrics peers) (journal_metrics m.journal)

  pub whole_text : (m : Metrics) (peers : List PeerMetrics)
      → text ++ (drop 1 (flat_map led_lines (all_metrics m peers)) ++ 10 ∷ []) ≡ text ++ metrics_text m peers
  whole_text m peers = ap (λ (t : List ℕ). text ++ t) (moved _ (drop 1 (all_metrics m peers)))

module _ (name help kind : List ℕ) where
  abbrev pub head : List ℕ
  head = 10 ∷ help_line name help ++ 10 ∷ type_line name kind

  module _ (value : ℕ) where
    pub led_alone : led_lines (record { name = name; help = help; kind = kind; samples = alone value })
        ≡ head ++ 10 ∷ sample_line name (record { labels = []; value = value })
    unfolding led_lines
    led_alone =
        let line : List ℕ = 10 ∷ sample_line name (record { labels = []; value = value }) in
        ap (λ (t : List ℕ). 10 ∷ help_line name help ++ (10 ∷ type_line name kind ++ t)) (append-nil line)
        ∙ sym (append_assoc (10 ∷ help_line name help) (10 ∷ type_line name kind) line)

    pub first_alone : drop 1 (led_lines (record { name = name; help = help; kind = kind; samples = alone value }))
        ≡ (help_line name help ++ 10 ∷ type_line name kind) ++ 10
        ∷ sample_line name (record { labels = []; value = value })
    unfolding led_lines
    first_alone = ap (drop 1) led_alone

  pub led_peers : (value : PeerMetrics → ℕ) (peers : List PeerMetrics)
      → led_lines (record { name = name; help = help; kind = kind; samples = by_peer value peers })
      ≡ head ++ flat_map (λ p. 10 ∷ sample_line name (peer_sample value p)) peers
  unfolding led_lines
  led_peers value peers =
      sym (append_assoc (10 ∷ help_line name help) (10 ∷ type_line name kind)
      (led (map (sample_line name) (by_peer value peers))))
      ∙ ap (λ (t : List ℕ). head ++ t)
      (flat_map-map (λ (line : List ℕ). 10 ∷ line) (sample_line name) (by_peer value peers)
      ∙ flat_map-map (λ (s : Sample). 10 ∷ sample_line name s) (peer_sample value) peers)

  pub led_names : (counts : List ℕ)
      → led_lines (record { name = name; help = help; kind = kind; samples = by_name counts })
      ≡ head ++ flat_map (λ e. 10 ∷ sample_line name (name_sample e)) (zip refusal_names counts)
  unfolding led_lines
  led_names counts =
      sym (append_assoc (10 ∷ help_line name help) (10 ∷ type_line name kind)
      (led (map (sample_line name) (by_name counts))))
      ∙ ap (λ (t : List ℕ). head ++ t) (flat_map-map (λ (line : List ℕ). 10 ∷ line) (sample_line name) (by_name counts)
      ∙ flat_map-map (λ (s : Sample). 10 ∷ sample_line name s) name_sample (zip refusal_names counts))

  -- .. appended to a text
  module _ (text : List ℕ) where
    pub put_alone : (value : ℕ)
        → (text ++ head) ++ 10 ∷ sample_line name (record { labels = []; value = value })
        ≡ text ++ led_lines (record { name = name; help = help; kind = kind; samples = alone value })
    put_alone value = append_assoc text head (10 ∷ sample_line name (record { labels = []; value = value }))
        ∙ ap (λ (t : List ℕ). text ++ t) (sym (led_alone value))

    pub put_first : (value : ℕ)
        → (text ++ (help_line name help ++ 10 ∷ type_line name kind)) ++ 10
        ∷ sample_line name (record { labels = []; value = value })
        ≡ text ++ drop 1 (led_lines (record { name = name; help = help; kind = kind; samples = alone value }))
    put_first value =
        append_assoc text (help_line name help ++ 10 ∷ type_line name kind)
        (10 ∷ sample_line name (record { labels = []; value = value }))
        ∙ ap (λ (t : List ℕ). text ++ t) (sym (first_alone value))

    pub put_peers : (value : PeerMetrics → ℕ) (peers : List PeerMetrics)
        → (text ++ head) ++ flat_map (λ p. 10 ∷ sample_line name (peer_sample value p)) peers
        ≡ text ++ led_lines (record { name = name; help = help; kind = kind; samples = by_peer value peers })
    put_peers value peers = append_assoc text head (flat_map (λ p. 10 ∷ sample_line name (peer_sample value p)) peers)
        ∙ ap (λ (t : List ℕ). text ++ t) (sym (led_peers value peers))

    pub put_names : (counts : List ℕ)
        → (text ++ head) ++ flat_map (λ e. 10 ∷ sample_line name (name_sample e)) (zip refusal_names counts)
        ≡ text ++ led_lines (record { name = name; help = help; kind = kind; samples = by_name counts })
    put_names counts = append_assoc text head
        (flat_map (λ e. 10 ∷ sample_line name (name_sample e)) (zip refusal_names counts))
        ∙ ap (λ (t : List ℕ). text ++ t) (sym (led_names counts))

-- the metric with a value of each peer, by its words
pub is_peer_metric : (value : PeerValue) (peers : List PeerMetrics) (name help kind : List ℕ)
    → name ≡ (peer_metric value []).name → help ≡ (peer_metric value []).help → kind ≡ (peer_metric value []).kind
    → record { name = name; help = help; kind = kind; samples = by_peer (peer_value value) peers }
    ≡ peer_metric value peers
is_peer_metric Applied peers name help kind a b c = rw (a, b, c) refl
is_peer_metric Buffering peers name help kind a b c = rw (a, b, c) refl
is_peer_metric Held peers name help kind a b c = rw (a, b, c) refl
is_peer_metric Receiving peers name help kind a b c = rw (a, b, c) refl
is_peer_metric Sending peers name help kind a b c = rw (a, b, c) refl
is_peer_metric Silent peers name help kind a b c = rw (a, b, c) refl
is_peer_metric Lines peers name help kind a b c = rw (a, b, c) refl
is_peer_metric Refused peers name help kind a b c = rw (a, b, c) refl
is_peer_metric Dropped peers name help kind a b c = rw (a, b, c) refl
is_peer_metric Waiting peers name help kind a b c = rw (a, b, c) refl
is_peer_metric WentBack peers name help kind a b c = rw (a, b, c) refl
