-- histories: what commands, undos and redos one after another leave
use Rattle.std.proofs.Common.{◌≡◌, ℕ, ◌+◌, ◌-◌, ◌≤◌, zero, suc, List, [], ◌∷◌, length, take, get_or, refl, ap, ◌∙◌, arith}
use Rattle.std.proofs.lemmas.List.{length-take-le, length_push, get_or_append_left, get_or-take, get_or_push}
use Rattle.d64_history.specs.History.{History, IsHistory, present_image, extended_history, undone_history, redone_history}
use Rattle.d64_history.specs.HistoryLaws.{added_all, undone_by, redone_by, Retraces}

-- commands move the cursor on by their number
cursor-added_all : (images : List (List (List ℕ))) (history : History)
    → (added_all history images).cursor ≡ history.cursor + length images
cursor-added_all [] history = omega arith
cursor-added_all (x ∷ images) history = omega (arith, cursor-added_all images (extended_history history x))

-- the images up to the present one, and the added one
length-added : (history : History) (image : List (List ℕ)) → IsHistory history
    → length (extended_history history image).images ≡ history.cursor + 2
length-added history image h =
    omega (arith, length_push (take (history.cursor + 1) history.images) image, length-take-le (history.cursor + 1) history.images (omega arith))

-- an image before the added one stays
get_or-extended_history : (history : History) (image : List (List ℕ)) (i : ℕ) → IsHistory history → i ≤ history.cursor
    → get_or (extended_history history image).images i [] ≡ get_or history.images i []
get_or-extended_history history image i h below =
    let l = length-take-le (history.cursor + 1) history.images (omega arith) in
    get_or_append_left (take (history.cursor + 1) history.images) (image ∷ []) [] i (omega arith)
    ∙ get_or-take (history.cursor + 1) history.images i [] (omega arith)

-- the added image is the present one
pub present_image-extended_history : (history : History) (image : List (List ℕ)) → IsHistory history → present_image (extended_history history image) ≡ image
present_image-extended_history history image h =
    get_or_push (take (history.cursor + 1) history.images) image [] (history.cursor + 1)
    (length-take-le (history.cursor + 1) history.images (omega arith))

pub IsHistory-extended_history : (history : History) (image : List (List ℕ)) → IsHistory history → IsHistory (extended_history history image)
IsHistory-extended_history history image h = omega (arith, length-added history image h)

IsHistory-added_all : (images : List (List (List ℕ))) (history : History) → IsHistory history → IsHistory (added_all history images)
IsHistory-added_all [] history h = h
IsHistory-added_all (x ∷ images) history h = IsHistory-added_all images (extended_history history x) (IsHistory-extended_history history x h)

-- the images up to the present one stay under commands
get_or-added_all : (images : List (List (List ℕ))) (history : History) (i : ℕ) → IsHistory history → i ≤ history.cursor
    → get_or (added_all history images).images i [] ≡ get_or history.images i []
get_or-added_all [] history i h below = refl
get_or-added_all (x ∷ images) history i h below =
    get_or-added_all images (extended_history history x) i (IsHistory-extended_history history x h) (omega arith) ∙ get_or-extended_history history x i h below

-- the images of the commands come one after another from the present one on
traced : (images : List (List (List ℕ))) (history : History) (i at : ℕ) → IsHistory history → i ≤ length images → history.cursor + i ≡ at
    → get_or (added_all history images).images at [] ≡ get_or (present_image history ∷ images) i []
traced images history zero at h below e =
    get_or-added_all images history at h (omega arith)
    ∙ (let same : at ≡ history.cursor = omega arith in ap (λ (n : ℕ). get_or history.images n []) same)
traced [] history (suc i) at h below e = absurd (omega arith)
traced (x ∷ images) history (suc i) at h below e =
    traced images (extended_history history x) i at (IsHistory-extended_history history x h) (omega arith) (omega arith)
    ∙ ap (λ (image : List (List ℕ)). get_or (image ∷ images) i []) (present_image-extended_history history x h)

cursor-undone_by : (count : ℕ) (history : History) → (undone_by count history).cursor ≡ history.cursor - count
cursor-undone_by zero history = omega arith
cursor-undone_by (suc count) history = omega (arith, cursor-undone_by count (undone_history history))

images-undone_by : (count : ℕ) (history : History) → (undone_by count history).images ≡ history.images
images-undone_by zero history = refl
images-undone_by (suc count) history = images-undone_by count (undone_history history)

cursor-redone_by : (count : ℕ) (history : History) → (redone_by count history).cursor ≡ history.cursor + count
cursor-redone_by zero history = omega arith
cursor-redone_by (suc count) history = omega (arith, cursor-redone_by count (redone_history history))

images-redone_by : (count : ℕ) (history : History) → (redone_by count history).images ≡ history.images
images-redone_by zero history = refl
images-redone_by (suc count) history = images-redone_by count (redone_history history)

-- the cursor after undos and redos
cursor-retraced : (undos redos : ℕ) (history : History)
    → (redone_by redos (undone_by undos history)).cursor ≡ history.cursor - undos + redos
cursor-retraced undos redos history =
    omega (arith, cursor-redone_by redos (undone_by undos history), cursor-undone_by undos history)

-- undos and redos keep the images
images-retraced : (undos redos : ℕ) (history : History) → (redone_by redos (undone_by undos history)).images ≡ history.images
images-retraced undos redos history = images-redone_by redos (undone_by undos history) ∙ images-undone_by undos history

-- after commands, undos and redos pass through each image again
pub retraces : (history : History) (images : List (List (List ℕ))) (undos : ℕ) → IsHistory history → undos ≤ length images
    → Retraces history images undos
retraces history images undos h few =
    let all : History = added_all history images in
    let cursor = cursor-added_all images history in
    let within = IsHistory-added_all images history h in
    record {
      can_undo = λ more. omega (arith, cursor-undone_by undos all);
      can_redo = λ redos more. omega (arith, cursor-retraced undos redos all, ap length (images-retraced undos redos all));
      image = λ redos most.
          let at = cursor-retraced undos redos all in
          ap (λ (list : List (List (List ℕ))). get_or list (redone_by redos (undone_by undos all)).cursor []) (images-retraced undos redos all)
          ∙ traced images history (length images - undos + redos) (redone_by redos (undone_by undos all)).cursor h (omega arith) (omega arith);
    }
