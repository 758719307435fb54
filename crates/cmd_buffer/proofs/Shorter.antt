-- The commands that bytes hold, whatever bound stands on their number.
use Rattle.std.proofs.Common.{◌≡◌, ℕ, zero, suc, ◌+◌, ◌*◌, ◌<◌, ◌≤◌, Bool, true, false, cond, List, [], ◌∷◌, length, drop, Option, Some, None, refl, ap, subst, ◌∙◌, arith, length-drop}
use Rattle.std.specs.Prelude.{nat_le, ◌==◌, slice_index}
use Rattle.std.proofs.lemmas.Option.{none-some, same_Some}
use Rattle.gfx_model.specs.Commands.{Command}
use Rattle.cmd_buffer.specs.Bytes.{with_rest, of_length, layout_form, layout_command, vertex_buffer_form, index_buffer_form, texture_form, frame_buffer_form, program_form, uniform_form, update_buffer_form, update_texture_form, destroy_form, by_later_number, by_number, decoded, next_for, commands_for, commands_in}

abbrev Shorter : List ℕ → Option (Command × List ℕ) → Type 0
Shorter b o = (p : Command × List ℕ) → o ≡ Some p → length p.1 ≤ length b

rest_shorter : (n : ℕ) (b : List ℕ) (o : Option Command) → Shorter b (with_rest n b o)
rest_shorter n b None p e = absurd (none-some p e)
rest_shorter n b (Some c) p e = let P : (Command × List ℕ) → Type 0 = λ x. length x.1 ≤ length b in subst P (same_Some (c, drop n b) p e) (omega (arith, length-drop n b))

choice : (b : List ℕ) (t : Bool) (x y : Option (Command × List ℕ)) → Shorter b x → Shorter b y → Shorter b (cond t x y)
choice b true x y f g p e = f p e
choice b false x y f g p e = g p e

none_shorter : (b : List ℕ) → Shorter b None
none_shorter b p e = absurd (none-some p e)

of_length_shorter : (n : ℕ) (form : List ℕ → Option Command) (b : List ℕ) → Shorter b (of_length n form b)
of_length_shorter n form b = choice b (nat_le n (length b)) (with_rest n b (form b)) None (rest_shorter n b (form b)) (none_shorter b)

layout_shorter : (b : List ℕ) → Shorter b (layout_command b)
layout_shorter b = choice b (nat_le 3 (length b)) (of_length (4 + 4 * slice_index b 2) layout_form b) None (of_length_shorter (4 + 4 * slice_index b 2) layout_form b) (none_shorter b)

later_shorter : (n : ℕ) (b : List ℕ) → Shorter b (by_later_number n b)
later_shorter n b =
    choice b (n == 6) _ _ (of_length_shorter 3 program_form b)
    (choice b (n == 7) _ _ (of_length_shorter 11 uniform_form b)
    (choice b (n == 8) _ _ (of_length_shorter 11 update_buffer_form b)
    (choice b (n == 9) _ _ (of_length_shorter 14 update_texture_form b)
    (choice b (n == 10) _ _ (of_length_shorter 3 destroy_form b) (none_shorter b)))))

number_shorter : (n : ℕ) (b : List ℕ) → Shorter b (by_number n b)
number_shorter n b =
    choice b (n == 1) _ _ (layout_shorter b)
    (choice b (n == 2) _ _ (of_length_shorter 8 vertex_buffer_form b)
    (choice b (n == 3) _ _ (of_length_shorter 6 index_buffer_form b)
    (choice b (n == 4) _ _ (of_length_shorter 13 texture_form b)
    (choice b (n == 5) _ _ (of_length_shorter 6 frame_buffer_form b) (later_shorter n b)))))

decoded_shorter : (b : List ℕ) (p : Command × List ℕ) → decoded b ≡ Some p → length p.1 < length b
decoded_shorter [] p e = absurd (none-some p e)
decoded_shorter (n ∷ b) p e = omega (arith, number_shorter n b p e)

same_next : (f g : List ℕ → List Command) (b : List ℕ) (o : Option (Command × List ℕ)) → decoded b ≡ o → ((p : Command × List ℕ) → length p.1 < length b → f p.1 ≡ g p.1) → next_for f o ≡ next_for g o
same_next f g b None e h = refl
same_next f g b (Some p) e h = ap (λ xs. p.0 ∷ xs) (h p (decoded_shorter b p e))

bound_same : (n m : ℕ) (b : List ℕ) → length b ≤ n → length b ≤ m → commands_for n b ≡ commands_for m b
unfolding commands_for
bound_same zero zero b x y = refl
bound_same zero (suc m) [] x y = refl
bound_same zero (suc m) (n ∷ b) x y = absurd (omega (arith, x))
bound_same (suc n) zero [] x y = refl
bound_same (suc n) zero (k ∷ b) x y = absurd (omega (arith, y))
bound_same (suc n) (suc m) b x y = same_next (commands_for n) (commands_for m) b (decoded b) refl (λ p h. bound_same n m p.1 (omega (arith, h, x)) (omega (arith, h, y)))

some_next : (b : List ℕ) (p : Command × List ℕ) → decoded b ≡ Some p → commands_in b ≡ p.0 ∷ commands_in p.1
unfolding commands_for
some_next [] p e = absurd (none-some p e)
some_next (n ∷ b) p e = ap (next_for (commands_for (length b))) e ∙ ap (λ xs. p.0 ∷ xs) (bound_same (length b) (length p.1) p.1 (number_shorter n b p e) (omega arith))

pub commands_some : (b : List ℕ) (c : Command) (rest : List ℕ) → decoded b ≡ Some (c, rest) → commands_in b ≡ c ∷ commands_in rest
commands_some b c rest e = some_next b (c, rest) e

pub commands_none : (b : List ℕ) → decoded b ≡ None → commands_in b ≡ []
unfolding commands_for
commands_none [] e = refl
commands_none (n ∷ b) e = ap (next_for (commands_for (length b))) e
