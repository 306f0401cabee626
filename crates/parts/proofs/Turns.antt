-- What is left of a message before and after a part is cut off.
use Rattle.std.proofs.Common.{◌≡◌, ℕ, zero, suc, ◌+◌, ◌*◌, ◌<◌, ◌≤◌, Bool, true, false, ◌⊎◌, List, [], ◌∷◌, length, drop, Some, None, Ok, Option, sym, ap, ◌∙◌, subst, inl, inr, ⊎_elim, arith}
use Rattle.std.specs.List.{prefix_len}
use Rattle.std.proofs.lemmas.List.{drop_more, drop_all, drop-drop}
use Rattle.std.proofs.lemmas.Bool.{cond-true, cond-false, cases_Bool}
use Rattle.parts.specs.declared.tag.Tag.{Tag}
use Rattle.parts.specs.declared.reader.Token.{Token}
use Rattle.parts.specs.declared.reader.Token.TheVariants as token
use Rattle.parts.specs.declared.reader.Next.{Next}
use Rattle.parts.specs.declared.reader.Next.TheVariants as next
use Rattle.parts.specs.declared.tag.Spelling.{Spelling}
use Rattle.parts.specs.Tags.{element_of, tag_of}
use Rattle.parts.specs.Cutting.{run, tag, ends, broken, ◌then◌, part_count, in_run, run_at, emptied, tagged, behind_run, parts_from, parts_at_tag}
use Rattle.parts.specs.Readers.{piece_of, parts_by, RunInside}
use Rattle.parts.proofs.Walk.{parts_are}

-- the end
pub at_end : (msg : List ℕ) (at : ℕ) → length msg ≤ at → parts_at_tag at (drop at msg) ≡ ends
at_end msg at h = ap (parts_at_tag at) (drop_all at msg h)

module _ (msg : List ℕ) (at : ℕ) (inside : at < length msg) where
  at_less : parts_at_tag at (drop at msg) ≡ tagged at (tag_of (drop (at + 1) msg)) (λ n. parts_from (at + 1 + n) (drop n (drop (at + 1) msg)))
  at_less = ap (parts_at_tag at) (drop_more msg at 0 inside)

  -- a `<` that begins no tag
  pub at_stray : tag_of (drop (at + 1) msg) ≡ None → parts_at_tag at (drop at msg) ≡ broken at
  at_stray e = at_less ∙ ap (λ o. tagged at o (λ n. parts_from (at + 1 + n) (drop n (drop (at + 1) msg)))) e

  -- a tag
  pub at_tag : (s : Spelling) (n : Next) → tag_of (drop (at + 1) msg) ≡ Some s →
      ((s.empty ≡ true) × (n ≡ next.EmptyRun (record { name = element_of s.tag; place = at }))) ⊎ ((s.empty ≡ false) × (n ≡ next.Run)) →
      parts_at_tag at (drop at msg) ≡ tag at s.tag then parts_by n (at + 1 + s.len) (drop (at + 1 + s.len) msg)
  at_tag s n e way =
      at_less ∙ ap (λ o. tagged at o (λ n. parts_from (at + 1 + n) (drop n (drop (at + 1) msg)))) e
      ∙ ap (λ bs. tag at s.tag then emptied s.empty s.tag at (at + 1 + s.len) (parts_from (at + 1 + s.len) bs)) (drop-drop s.len (at + 1) msg)
      ∙ ap (λ ps. tag at s.tag then ps) (by way)
    where
      by : ((s.empty ≡ true) × (n ≡ next.EmptyRun (record { name = element_of s.tag; place = at }))) ⊎ ((s.empty ≡ false) × (n ≡ next.Run)) →
          emptied s.empty s.tag at (at + 1 + s.len) (parts_from (at + 1 + s.len) (drop (at + 1 + s.len) msg)) ≡ parts_by n (at + 1 + s.len) (drop (at + 1 + s.len) msg)
      by (inl w) = ap (λ e. emptied e s.tag at (at + 1 + s.len) (parts_from (at + 1 + s.len) (drop (at + 1 + s.len) msg))) w.0 ∙ ap (λ k. parts_by k (at + 1 + s.len) (drop (at + 1 + s.len) msg)) (sym w.1)
      by (inr w) = ap (λ e. emptied e s.tag at (at + 1 + s.len) (parts_from (at + 1 + s.len) (drop (at + 1 + s.len) msg))) w.0 ∙ ap (λ k. parts_by k (at + 1 + s.len) (drop (at + 1 + s.len) msg)) (sym w.1)

-- a run
pub at_run : (msg : List ℕ) (at end : ℕ) → end ≡ at + prefix_len in_run (drop at msg) → parts_from at (drop at msg) ≡ run at (run_at (drop at msg)) then parts_at_tag end (drop end msg)
at_run msg at end e =
    parts_are at (drop at msg)
    ∙ ap (λ bs. run at (run_at (drop at msg)) then parts_at_tag (at + prefix_len in_run (drop at msg)) bs) (drop-drop (prefix_len in_run (drop at msg)) at msg)
    ∙ ap (λ k. run at (run_at (drop at msg)) then parts_at_tag k (drop k msg)) (sym e)

-- a tag is no run, so it does not reach past the end
pub tag_inside : (t : Token) (q : ℕ) (g : Tag) (n : ℕ) → piece_of t ≡ tag q g → RunInside n (Ok (Some t))
tag_inside (token.Open name part) q g n e = tt
tag_inside (token.Close name part) q g n e = tt
tag_inside (token.Run part) q g n e = absurd (let z : ◌≡◌ {A = ℕ} 0 1 = cc in omega arith)

-- a `<` begins at most four parts
few_behind : (p k : ℕ) (bs : List ℕ) → part_count (behind_run p k bs) ≤ 4 * length bs
few_behind p k [] = omega arith
few_behind p (suc k) (b ∷ bs) = omega (arith, few_behind (p + 1) k bs)
few_behind p zero (b ∷ bs) = ⊎_elim
    (λ yes. subst (λ ps. part_count ps ≤ 4 * length (b ∷ bs)) (sym (cond-true (in_run b) (behind_run (p + 1) 0 bs) (tagged p (tag_of bs) (λ n. run (p + 1 + n) (run_at (drop n bs)) then behind_run (p + 1) n bs)) yes)) (omega (arith, few_behind (p + 1) 0 bs)))
    (λ other. subst (λ ps. part_count ps ≤ 4 * length (b ∷ bs)) (sym (cond-false (in_run b) (behind_run (p + 1) 0 bs) (tagged p (tag_of bs) (λ n. run (p + 1 + n) (run_at (drop n bs)) then behind_run (p + 1) n bs)) other)) (at_tagged (tag_of bs) (λ n. few_behind (p + 1) n bs)))
    (cases_Bool (in_run b))
  where
    by_empty : (e : Bool) (s : Spelling) (n : ℕ) → part_count (behind_run (p + 1) n bs) ≤ 4 * length bs → part_count (emptied e s.tag p (p + 1 + s.len) (run (p + 1 + n) (run_at (drop n bs)) then behind_run (p + 1) n bs)) ≤ 4 * length bs + 3
    by_empty true s n h = omega (arith, h)
    by_empty false s n h = omega (arith, h)

    at_tagged : (o : Option Spelling) → ((n : ℕ) → part_count (behind_run (p + 1) n bs) ≤ 4 * length bs) → part_count (tagged p o (λ n. run (p + 1 + n) (run_at (drop n bs)) then behind_run (p + 1) n bs)) ≤ 4 * length (b ∷ bs)
    at_tagged None h = omega arith
    at_tagged (Some s) h = omega (arith, by_empty s.empty s s.len (h s.len))

pub few_parts : (p : ℕ) (bs : List ℕ) → part_count (parts_from p bs) ≤ 4 * length bs + 1
unfolding parts_from
few_parts p bs = omega (arith, few_behind p 0 bs)
