mod Containing
