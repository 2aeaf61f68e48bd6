-- The trees of a renamed history.
use Rattle.svn_dump.proofs.Common.{◌≡◌, ℕ, zero, suc, Bool, true, false, if◌then◌else◌, List, [], ◌∷◌, ◌++◌, Contains, filter_map, map, fold, length, refl, sym, ap, ◌∙◌, arith, map-append, length-map, cons_option, below, same_path, Setting, keep, put, Action, delete, change, add, copy, Record, History, rename_setting, rename_action, rename_record, rename_history, Tree, Entry, entry_at, is_there, mergeinfo_after, tree_without, tree_with_mergeinfo, entry_of_copy, tree_of, tree_after_action, tree_after_record, tree_from_revision, start_tree, end_tree, with_revision, trees_of}
use Rattle.std.proofs.Common.{Option, None, Some, option_map}
use Rattle.svn_dump.proofs.Renaming.Paths.{KeepsSame, below-rename, is_below-rename, same_path-rename, same_path_unnamed}
use Rattle.svn_dump.proofs.Trees.{settled_entry, entry_from}

-- ---- the renamed tree

abbrev pub rename_entry : {C D M N : Type 0} → (C → D) → (M → N) → Entry C M → Entry D N
rename_entry name text each =
    record { kind = each.kind; mergeinfo = option_map text each.mergeinfo; origin = option_map (λ o. (map name o.0, o.1)) each.origin }

abbrev pub rename_tree : {C D M N : Type 0} → (C → D) → (M → N) → Tree C M → Tree D N
rename_tree name text tree = map (λ each. (map name each.0, rename_entry name text each.1)) tree

-- the tree of a revision is renamed
pub tree_of-rename : {C D M N : Type 0} (name : C → D) (text : M → N) (trees : List (Tree C M)) (rev : ℕ)
    → tree_of (map (rename_tree name text) trees) rev ≡ rename_tree name text (tree_of trees rev)
tree_of-rename name text [] rev = refl
tree_of-rename name text (tree ∷ trees) zero = refl
tree_of-rename name text (tree ∷ trees) (suc rev) = tree_of-rename name text trees rev

-- carrying on goes before or after renaming
pub tree_from_revision-rename : {C D M N : Type 0} (name : C → D) (text : M → N) (rev : ℕ) (tree : Tree C M)
    → tree_from_revision rev (rename_tree name text tree) ≡ rename_tree name text (tree_from_revision rev tree)
tree_from_revision-rename name text rev [] = refl
tree_from_revision-rename name text rev (each ∷ tree) =
    ap (λ l. (map name each.0, rename_entry name text (entry_from each.0 rev each.1)) ∷ l) (tree_from_revision-rename name text rev tree)

-- so does beginning a revision
pub start_tree-rename : {C D M N : Type 0} (name : C → D) (text : M → N) (trees : List (Tree C M))
    → start_tree (map (rename_tree name text) trees) ≡ rename_tree name text (start_tree trees)
unfolding start_tree
start_tree-rename name text [] = refl
start_tree-rename name text (tree ∷ trees) =
    let last = length-map trees (rename_tree name text) in
    (λ i. tree_from_revision (last i) (tree_of (map (rename_tree name text) (tree ∷ trees)) (last i)))
    ∙ ap (tree_from_revision (length trees)) (tree_of-rename name text (tree ∷ trees) (length trees))
    ∙ tree_from_revision-rename name text (length trees) (tree_of (tree ∷ trees) (length trees))

-- and settling mergeinfo
pub mergeinfo_after-rename : {M N : Type 0} (text : M → N) (setting : Setting M) (old : Option M)
    → mergeinfo_after (rename_setting text setting) (option_map text old) ≡ option_map text (mergeinfo_after setting old)
mergeinfo_after-rename text keep old = refl
mergeinfo_after-rename text (put new) old = refl

-- an origin, renamed
abbrev pub rename_origin : {C D : Type 0} → (C → D) → List C × ℕ → List D × ℕ
rename_origin name o = (map name o.0, o.1)

-- an element of a tree, renamed
abbrev pub rename_each : {C D M N : Type 0} → (C → D) → (M → N) → List C × Entry C M → List D × Entry D N
rename_each name text each = (map name each.0, rename_entry name text each.1)

changed_each : {C D M N : Type 0} (name : C → D) (text : M → N) (setting : Setting M) (b : Bool) (path : List C) (e : Entry C M)
    → (if b then (map name path, settled_entry (rename_setting text setting) (rename_entry name text e))
    else (map name path, rename_entry name text e))
    ≡ rename_each name text (if b then (path, settled_entry setting e) else (path, e))
changed_each name text setting true path e =
    λ i. (map name path, record (rename_entry name text e) { mergeinfo = mergeinfo_after-rename text setting e.mergeinfo i })
changed_each name text setting false path e = refl

-- an entry of the source, put at what is left of its path below the copy's
put_below : {C M : Type 0} → List C → ℕ → List C → Entry C M → List C → List C × Entry C M
put_below from from_rev path e rest = (path ++ rest, entry_from from from_rev e)

put_below-rename : {C D M N : Type 0} (name : C → D) (text : M → N) (from : List C) (from_rev : ℕ) (path : List C) (e : Entry C M)
    → (b : Option (List C))
    → option_map (put_below (map name from) from_rev (map name path) (rename_entry name text e)) (option_map (map name) b)
    ≡ option_map (rename_each name text) (option_map (put_below from from_rev path e) b)
unfolding put_below
put_below-rename name text from from_rev path e None = refl
put_below-rename name text from from_rev path e (Some rest) =
    λ i. Some (sym (map-append name path rest) i, entry_from (map name from) from_rev (rename_entry name text e))

cons_option-map : {X Y : Type 0} (f : X → Y) (x : Option X) (xs : List X) → cons_option (option_map f x) (map f xs) ≡ map f (cons_option x xs)
cons_option-map f None xs = refl
cons_option-map f (Some x) xs = refl

module _ {C D M N : Type 0} (name : C → D) (text : M → N) (sameC : C → C → Bool) (sameD : D → D → Bool) (alike : KeepsSame name sameC sameD) where
  -- at a renamed path stands the renamed entry
  pub entry_at-rename : (tree : Tree C M) (path : List C)
      → entry_at sameD (rename_tree name text tree) (map name path) ≡ option_map (rename_entry name text) (entry_at sameC tree path)
  unfolding entry_at
  entry_at-rename [] path = refl
  entry_at-rename (each ∷ tree) path = grind (arith, same_path-rename name sameC sameD alike each.0 path, entry_at-rename tree path)

  -- a renamed path is there where the path was
  pub is_there-rename : (tree : Tree C M) (path : List C) → is_there sameD (rename_tree name text tree) (map name path) ≡ is_there sameC tree path
  is_there-rename tree path = grind (arith, entry_at-rename tree path)

  -- taking out goes before or after renaming
  pub without-rename : (path : List C) (tree : Tree C M)
      → tree_without sameD (map name path) (rename_tree name text tree) ≡ rename_tree name text (tree_without sameC path tree)
  without-rename path [] = refl
  without-rename path (each ∷ tree) = grind (arith, is_below-rename name sameC sameD alike path each.0, without-rename path tree)

  -- so does changing
  pub changed-rename : (path : List C) (setting : Setting M) (tree : Tree C M)
      → tree_with_mergeinfo sameD (map name path) (rename_setting text setting) (rename_tree name text tree)
      ≡ rename_tree name text (tree_with_mergeinfo sameC path setting tree)
  changed-rename path setting [] = refl
  changed-rename path setting (each ∷ tree) =
      let new = settled_entry (rename_setting text setting) (rename_entry name text each.1) in
      let head = ap (λ b. if b then (map name each.0, new) else rename_each name text each) (same_path-rename name sameC sameD alike each.0 path)
      ∙ changed_each name text setting (same_path sameC each.0 path) each.0 each.1 in
      λ i. head i ∷ changed-rename path setting tree i

  -- and moving an element
  pub entry_of_copy-rename : (from : List C) (from_rev : ℕ) (path : List C) (each : List C × Entry C M)
      → entry_of_copy sameD (map name from) from_rev (map name path) (rename_each name text each)
      ≡ option_map (rename_each name text) (entry_of_copy sameC from from_rev path each)
  unfolding put_below
  entry_of_copy-rename from from_rev path each =
      ap (option_map (put_below (map name each.0) from_rev (map name path) (rename_entry name text each.1)))
      (below-rename name sameC sameD alike from each.0)
      ∙ put_below-rename name text each.0 from_rev path each.1 (below sameC from each.0)

  -- and moving a tree
  pub moved_all-rename : (from : List C) (from_rev : ℕ) (path : List C) (tree : Tree C M)
      → filter_map (entry_of_copy sameD (map name from) from_rev (map name path)) (rename_tree name text tree)
      ≡ rename_tree name text (filter_map (entry_of_copy sameC from from_rev path) tree)
  moved_all-rename from from_rev path [] = refl
  moved_all-rename from from_rev path (each ∷ tree) =
      (λ i. cons_option (entry_of_copy-rename from from_rev path each i) (moved_all-rename from from_rev path tree i))
      ∙ cons_option-map (rename_each name text) (entry_of_copy sameC from from_rev path each) (filter_map (entry_of_copy sameC from from_rev path) tree)

  -- and an action
  pub tree_after_action-rename : (trees : List (Tree C M)) (path : List C) (action : Action C M) (tree : Tree C M)
      → tree_after_action sameD (map (rename_tree name text) trees) (map name path) (rename_action name text action) (rename_tree name text tree)
      ≡ rename_tree name text (tree_after_action sameC trees path action tree)
  unfolding tree_after_action
  tree_after_action-rename trees path delete tree = without-rename path tree
  tree_after_action-rename trees path (change setting) tree = changed-rename path setting tree
  tree_after_action-rename trees path (add replace kind setting) tree =
      (λ i. without-rename path tree i ++ (map name path, record { kind = kind; mergeinfo = mergeinfo_after-rename text setting None i; origin = None }) ∷ [])
      ∙ sym (map-append (rename_each name text) (tree_without sameC path tree) _)
  tree_after_action-rename trees path (copy replace from from_rev setting) tree =
      let source = filter_map (entry_of_copy sameC from from_rev path) (tree_of trees from_rev) in
      let taken = ap (filter_map (entry_of_copy sameD (map name from) from_rev (map name path))) (tree_of-rename name text trees from_rev)
      ∙ moved_all-rename from from_rev path (tree_of trees from_rev) in
      let settles = ap (tree_with_mergeinfo sameD (map name path) (rename_setting text setting)) taken ∙ changed-rename path setting source in
      (λ i. without-rename path tree i ++ settles i)
      ∙ sym (map-append (rename_each name text) (tree_without sameC path tree) (tree_with_mergeinfo sameC path setting source))

  -- and a record
  pub apply-rename : (trees : List (Tree C M)) (tree : Tree C M) (each : Record C M)
      → tree_after_record sameD (map (rename_tree name text) trees) (rename_tree name text tree) (rename_record name text each)
      ≡ rename_tree name text (tree_after_record sameC trees tree each)
  apply-rename trees tree each = tree_after_action-rename trees each.path each.action tree

  records-rename : (trees : List (Tree C M)) (tree : Tree C M) (records : List (Record C M))
      → fold (tree_after_record sameD (map (rename_tree name text) trees)) (rename_tree name text tree) (map (rename_record name text) records)
      ≡ rename_tree name text (fold (tree_after_record sameC trees) tree records)
  records-rename trees tree [] = refl
  records-rename trees tree (each ∷ records) =
      ap (λ t. fold (tree_after_record sameD (map (rename_tree name text) trees)) t (map (rename_record name text) records)) (apply-rename trees tree each)
      ∙ records-rename trees (tree_after_record sameC trees tree each) records

  -- and the records of a revision
  pub end_tree-rename : (trees : List (Tree C M)) (records : List (Record C M))
      → end_tree sameD (map (rename_tree name text) trees) (map (rename_record name text) records)
      ≡ rename_tree name text (end_tree sameC trees records)
  end_tree-rename trees records =
      ap (λ t. fold (tree_after_record sameD (map (rename_tree name text) trees)) t (map (rename_record name text) records)) (start_tree-rename name text trees)
      ∙ records-rename trees (start_tree trees) records

  -- and one more revision
  pub with_revision-rename : (trees : List (Tree C M)) (records : List (Record C M))
      → with_revision sameD (map (rename_tree name text) trees) (map (rename_record name text) records)
      ≡ map (rename_tree name text) (with_revision sameC trees records)
  with_revision-rename trees records =
      ap (λ t. map (rename_tree name text) trees ++ t ∷ []) (end_tree-rename trees records)
      ∙ sym (map-append (rename_tree name text) trees (end_tree sameC trees records ∷ []))

  revisions-rename : (trees : List (Tree C M)) (history : History C M)
      → fold (with_revision sameD) (map (rename_tree name text) trees) (rename_history name text history)
      ≡ map (rename_tree name text) (fold (with_revision sameC) trees history)
  revisions-rename trees [] = refl
  revisions-rename trees (records ∷ history) =
      ap (λ ts. fold (with_revision sameD) ts (rename_history name text history)) (with_revision-rename trees records)
      ∙ revisions-rename (with_revision sameC trees records) history

  -- the trees of a renamed history are the renamed trees
  pub trees_of-rename : (history : History C M)
      → trees_of sameD (rename_history name text history) ≡ map (rename_tree name text) (trees_of sameC history)
  unfolding trees_of
  trees_of-rename history = revisions-rename [] history

module _ {C D M N : Type 0} (name : C → D) (text : M → N) (sameD : D → D → Bool) (d : D) (unnamed : (c : C) → sameD (name c) d ≡ false) where
  -- a path with a component that is no name's is in no renamed tree
  pub entry_at_unnamed : (tree : Tree C M) (path : List D) → Contains path d → entry_at sameD (rename_tree name text tree) path ≡ None
  unfolding entry_at
  entry_at_unnamed [] path within = refl
  entry_at_unnamed (each ∷ tree) path within =
      grind (arith, same_path_unnamed name sameD d unnamed each.0 path within, entry_at_unnamed tree path within)

  -- and so in the tree of no revision
  pub tree_of_unnamed : (trees : List (Tree C M)) (path : List D) (rev : ℕ) → Contains path d
      → entry_at sameD (tree_of (map (rename_tree name text) trees) rev) path ≡ None
  tree_of_unnamed trees path rev within =
      ap (λ tree. entry_at sameD tree path) (tree_of-rename name text trees rev) ∙ entry_at_unnamed (tree_of trees rev) path within
