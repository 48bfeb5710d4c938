mod Freed
