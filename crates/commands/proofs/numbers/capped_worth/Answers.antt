use Rattle.std.proofs.Common.{◌≡◌, ◌+◌, ◌-◌, ◌*◌, [], ◌∷◌, ◌++◌, refl, subst, rules}
use Rattle.std.proofs.lemmas.Fn.{fold_over, slice_gives, fronts}
use Rattle.texts.specs.Digits.{worth}
use Rattle.texts.proofs.Numerals.{worth_after-append}
use Rattle.commands.specs.Numbers.{capped}
use Rattle.commands.proofs.numbers.capped_worth.Goals as goal

pub returns : goal.returns
returns c = subst (λ ds. c.fold.result ≡ capped (worth ds)) c.iter.ensures.rest
    (fold_over fronts (λ d. d.now) _ (λ ds n. n ≡ capped (worth ds)) _
    (λ ds n d m f' so call. let more : worth (ds ++ d.now ∷ []) ≡ worth ds * 10 + (d.now - 48) = worth_after-append 0 ds (d.now ∷ []) in search rules)
    _ _ _ _ (slice_gives c.iter.result) refl c.fold.ensures.ran)
