-- A number's digits are taken one at a time, as far as one that is none.
use Rattle.std.proofs.Common.{◌≡◌, ℕ, List, [], ◌∷◌, Some, None, Option, Bor, ControlFlow, Continue, Break, Iter, sym, ap, ◌∙◌, subst}
use denote.Param.Members.{Mut}
use Rattle.std.proofs.iter.Yields.{fronts}
use Rattle.std.specs.Fn.{Called}
use Rattle.std.specs.ControlFlow.{continue_value}
use Rattle.std.specs.Option.{MatchOption}
use Rattle.std.specs.List.{FoldsTo}
use Rattle.std.specs.Iterator.{AlwaysYields, YieldsThen, TryFoldTurn, TryFoldsItems}
use Rattle.words.specs.Numbers.{one_more, decimal_after}

abbrev after : Option ℕ → List ℕ → Option ℕ
after o ds = elim o [ Some m ↦ decimal_after m ds | None ↦ None ]

module _ {F : Type 0} (E : Type 0) (g : Mut F (ℕ × (Bor ℕ × Unit {0})) (Option ℕ)) (f : F)
    (k : (n : ℕ) (x : Bor ℕ) (v : Option ℕ) (q : F) → Called g f (n, (x, tt)) v q → (q ≡ f) × (v ≡ one_more n x.now)) where
  abbrev goes : Option ℕ → ControlFlow E ℕ → Type 0
  goes s r = s ≡ continue_value r

  abbrev Ends : ℕ → Option (Bor ℕ) → F → Option ℕ → Type 0
  Ends n o j r = MatchOption o (goes r (Continue n)) (λ x. (v : Option ℕ) × (h : F) × (e : E) × Called g j (n, (x, tt)) v h × goes v (Break e) × (r ≡ None))

  taken : (ds : List ℕ) (xs : List (Bor ℕ)) (o : Option (Bor ℕ)) (s u : Iter ℕ) (n m : ℕ) (p j : F) (r : Option ℕ) → p ≡ f → AlwaysYields fronts (λ x. x.now) s ds → YieldsThen fronts s xs o u
      → FoldsTo {P = F × ℕ} (TryFoldTurn g goes) (p, n) xs (j, m) → Ends m o j r → r ≡ decimal_after n ds
  taken [] [] None s u n m p j r same all way turns end = end ∙ ap (λ t. Some t.1) (sym turns)
  taken [] [] (Some x) s u n m p j r same all way turns end = absurd (all x u (subst (λ t. fronts t (Some x) u) (sym way.1) way.2))
  taken (d ∷ ds) [] None s u n m p j r same all way turns end = absurd (all.0 u (subst (λ t. fronts t None u) (sym way.1) way.2))
  taken (d ∷ ds) [] (Some x) s u n m p j r same all way turns end =
      let here = all.1 x u (subst (λ t. fronts t (Some x) u) (sym way.1) way.2) in
      let call = subst (λ t. Called g t.0 (t.1, (x, tt)) end.0 end.1) (sym turns ∙ ap (λ q. (q, n)) same) end.3 in
      let none : one_more n d ≡ None = ap (one_more n) (sym here.0) ∙ sym (k n x end.0 end.1 call).1 ∙ end.4 in
      end.5 ∙ sym (ap (λ o. after o ds) none)
  taken [] (x ∷ xs) o s u n m p j r same all way turns end = absurd (all x way.1.0 way.1.1)
  taken (d ∷ ds) (x ∷ xs) o s u n m p j r same all way turns end =
      let here = all.1 x way.1.0 way.1.1 in
      let turn = turns.1 in
      let made = k n x turn.0 turns.0.0 (subst (λ q. Called g q (n, (x, tt)) turn.0 turns.0.0) same turn.1) in
      let some : one_more n d ≡ Some turns.0.1 = ap (one_more n) (sym here.0) ∙ sym made.1 ∙ turn.2 in
      taken ds xs o way.1.0 u turns.0.1 m turns.0.0 j r made.0 here.1 (way.0, way.1.2, way.2) turns.2 end ∙ sym (ap (λ o. after o ds) some)

  pub decimal_from : (ds : List ℕ) (s u : Iter ℕ) (n : ℕ) (r : Option ℕ) → AlwaysYields fronts (λ x. x.now) s ds → TryFoldsItems fronts g goes (λ e t. t ≡ None) s f n r u → r ≡ decimal_after n ds
  decimal_from ds s u n r all ran = taken ds ran.0 ran.1 s u n ran.3 f ran.2 r (λ i. f) all ran.4 ran.5 ran.6
